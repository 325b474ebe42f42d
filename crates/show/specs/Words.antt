-- An image written as words.
use Rattle.std.specs.Prelude.{ℕ, ◌/◌, List, [], ◌∷◌, ◌++◌, length, take}
use Rattle.storage.specs.Bytes.{be64, splice}

-- the bytes of words, one after the other
unfoldable pub bytes_of : List ℕ → List ℕ
bytes_of [] = []
bytes_of (w ∷ ws) = be64 w ++ bytes_of ws

-- words over s from its front on, as many as there is room for
unfoldable pub spread_over : List ℕ → List ℕ → List ℕ
spread_over ws s = splice s 0 (bytes_of (take (length s / 8) ws))
