-- What is printed, in bytes.
use Rattle.std.specs.Prelude.{ℕ, ◌/◌, ◌%◌, false, List, [], ◌∷◌, ◌++◌, codes, decimal, flat_map, nat_lt, if◌then◌else◌}
use Rattle.std.specs.Fmt.{digit_glyph}
use Rattle.calls.specs.declared.reading.Kind.{Kind}
use Rattle.calls.specs.declared.reading.Kind.TheVariants.{File, Directory}

-- a call's number, and above 20 the place where the image breaks a rule
abbrev pub answer_text : ℕ → ℕ → List ℕ
answer_text number place = decimal number ++ (if nat_lt 20 number then codes " at " ++ decimal place else [])

-- a kind and its two numbers
abbrev pub kind_text : Kind → List ℕ
kind_text (File size room) = codes "file " ++ (decimal size ++ (codes "/" ++ decimal room))
kind_text (Directory taken total) = codes "directory " ++ (decimal taken ++ (codes "/" ++ decimal total))

-- a byte in hex: two digits
abbrev pub hex_byte : ℕ → List ℕ
hex_byte b = digit_glyph false (b / 16) ∷ digit_glyph false (b % 16) ∷ []

-- bytes in hex
abbrev pub hex_text : List ℕ → List ℕ
hex_text bytes = flat_map hex_byte bytes
