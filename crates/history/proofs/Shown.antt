-- The lines of a listing match the book's entries, each found along its path.
use Prim.Native.Nat.{◌+◌, ◌<◌, ◌≤◌, suc, ℕ}
use mathlib.Core.Bool.{Bool, ◌||◌, false, false≢true, or-true, true}
use mathlib.Core.List.{List, [], ◌++◌, ◌∷◌, append_assoc, append-nil}
use mathlib.Core.Path.{◌∙◌, ◌≡◌, ap, refl, sym}
use native.Mathlib.Omega.{arith}
use lib.ListN.{length, length-append}
use Rattle.storage.specs.Bytes.{same}
use Rattle.storage.proofs.Compare.{same_eq, same_refl}
use Rattle.path.specs.Name.{valid_name}
use Rattle.path.specs.Path.{joined}
use Rattle.path.proofs.Paths.{name-length}
use Rattle.alloc.specs.Block.{Block}
use Rattle.alloc.specs.Volume.{Objects, block_at}
use Rattle.tree.specs.Fields.{content, file_size, is_file, is_name, room}
use Rattle.calls.specs.Reading as reading
use Rattle.calls.specs.Reading.{directory}
use Rattle.calls.specs.Walk.{at}
use Rattle.history.specs.Listing.{Line, line_of, object_lines}
use Rattle.history.specs.Claim.{Each, Entry, both, entries, entries_in, neither, slash, slots_in, taken_in}
use Rattle.history.proofs.Counts.{dir_kind, file-kind, size-content}
use Rattle.history.proofs.Lines.{root-lines, row_lines}
use Rattle.history.proofs.Nodes.{Among, Node, Rep, Stands, at_file, book_of, child_at, dir, empty, end, file, height, named, seek, walk_of}
use Rattle.history.proofs.Paths.{Way, here_last, way_last, way_root}
use Rattle.history.proofs.Sums.{times}
use Rattle.history.proofs.Walks.{among_top, file-there, name-there, of_dir, rest_of, row_of_lem}

-- two pairs of lists
each_append : {A B : Type 0} {R : A → B → Type 0} {xs us : List A} {ys vs : List B} → Each R xs ys
    → Each R us vs → Each R (xs ++ us) (ys ++ vs)
each_append neither q = q
each_append (both x p) q = both x (each_append p q)

-- ---- a line and its entry, by the tree

-- a file with these bytes
pub record HasBytes (b : Block) (x : List ℕ) : Type 0 where
  pub is_file : is_file b ≡ true
  pub content : content b ≡ x
  pub size : file_size b ≡ length x

-- its path leads to it, its directory's to its parent; its name block holds its name, and a file its bytes
pub record Matches (os : Objects) (root : ℕ) (rb : Block) (whole : Node) (l : Line) (e : Entry) : Type 0 where
  pub depth : l.depth ≡ e.depth
  pub kind : l.kind ≡ e.kind
  pub way : List (List ℕ)
  pub path : Way e.path way
  pub ref : walk_of (seek way root rb whole) ≡ at l.ref
  pub up : List (List ℕ)
  pub above : Way e.above up
  pub parent : walk_of (seek up root rb whole) ≡ at l.parent
  pub top : e.name ≡ [] → l.name ≡ 0
  pub name : (e.name ≡ [] → ⊥) → (is_name (block_at os l.name) ≡ true) × ((block_at os l.name).body ≡ e.name)
  pub bytes : (n m : ℕ) → e.kind ≡ reading.file n m → HasBytes (block_at os l.ref) e.bytes

-- a directory is no file
no_file : {C : Type 0} (a b n m : ℕ) → directory a b ≡ reading.file n m → C
no_file a b n m e = let z : ◌≡◌ {A = ℕ} 0 1 = cc in absurd (omega arith)

-- a name that is in the rest of a row is not its first slot's
other_name : (v w : List ℕ) (t : Node) → named v t ≡ false → named w t ≡ true → same v w ≡ false
other_name v w t h g = go (same v w) refl
  where
    go : (q : Bool) → same v w ≡ q → q ≡ false
    go false e = refl
    go true e = absurd (false≢true (sym h ∙ ap (λ (x : List ℕ). named x t) (same_eq v w e) ∙ g))

-- a valid name is some
name_some : (w : List ℕ) → valid_name w ≡ true → w ≡ [] → ⊥
name_some w h e = omega (arith, (name-length w h).0, ap length e)

module _ (os : Objects) (once : (r : ℕ) → times r os ≤ 1) (root : ℕ) (rb : Block) (top : Node) where
  -- where a row stands, or a part of it: its directory is at the end of pre, and the names of its slots are found in it
  record Row (up : ℕ) (pre : List (List ℕ)) (here above : List ℕ) (c : Node) : Type 0 where
    block : Block
    whole : Node
    reached : (ws : List (List ℕ)) → seek (pre ++ ws) root rb top ≡ seek ws up block whole
    last : (w : List ℕ) (ws : List (List ℕ)) → named w c ≡ true
        → child_at w (at_file ws) (seek ws) whole ≡ child_at w (at_file ws) (seek ws) c
    spelled : here ≡ joined pre ++ slash
    path : Way above pre

  -- less of the row, with what is known of the names in it
  shorter : {up : ℕ} {pre : List (List ℕ)} {here above : List ℕ} {c t : Node} (w : Row up pre here above c)
      → ((v : List ℕ) (ws : List (List ℕ)) → named v t ≡ true
      → child_at v (at_file ws) (seek ws) w.whole ≡ child_at v (at_file ws) (seek ws) t)
      → Row up pre here above t
  shorter w f = record { block = w.block; whole = w.whole; reached = w.reached; last = f; spelled = w.spelled; path = w.path }

  -- behind the first slot
  module _ {up : ℕ} {pre : List (List ℕ)} {here above : List ℕ} (n r : ℕ) (a b : Block) (t : Node) (g : named a.body t ≡ false) where
    past_file : Row up pre here above (file n r a b t) → Row up pre here above t
    past_file w =
        shorter w (λ v ws h. w.last v ws (rw (h, or-true (same a.body v))) ∙ rw (child_at, other_name a.body v t g h))

    past_dir : (c : Node) → Row up pre here above (dir n r a b c t) → Row up pre here above t
    past_dir c w =
        shorter w (λ v ws h. w.last v ws (rw (h, or-true (same a.body v))) ∙ rw (child_at, other_name a.body v t g h))

  -- the first slot's name is in the row
  first-named : (v : List ℕ) (t : Node) → (same v v || named v t) ≡ true
  first-named v t = rw (same_refl v)

  -- the row of a directory in it
  below : (up : ℕ) (pre : List (List ℕ)) (here above : List ℕ) (n r : ℕ) (a b : Block) (c t : Node) → valid_name a.body ≡ true
      → length pre < 16 → Row up pre here above (dir n r a b c t)
      → Row r (pre ++ (a.body ∷ [])) (here ++ (a.body ++ slash)) (here ++ a.body) c
  below up pre here above n r a b c t g l w = record {
    block = b;
    whole = c;
    reached = λ ws.
        rw (append_assoc pre (a.body ∷ []) ws)
        (w.reached (a.body ∷ ws) ∙ w.last a.body ws (first-named a.body t) ∙ rw (child_at, same_refl a.body));
    last = λ v ws h. refl;
    spelled = here_last pre a.body w.spelled;
    path = way_last pre a.body w.spelled w.path.valid g l;
  }

  -- the directory itself
  at_up : (up : ℕ) (pre : List (List ℕ)) (here above : List ℕ) (c : Node) → Row up pre here above c
      → walk_of (seek pre root rb top) ≡ at up
  at_up up pre here above c w = let e = w.reached [] in rw (← append-nil pre, e)

  -- a file, and a directory, in the first slot
  file_match : (up d : ℕ) (pre : List (List ℕ)) (here above : List ℕ) (n r : ℕ) (a b : Block) (t : Node) → Stands up (file n r a b t)
      → Among os (file n r a b t) → length pre < 16 → Row up pre here above (file n r a b t)
      → Matches os root rb top (line_of r up n d b)
      (record {
        path = here ++ a.body;
        name = a.body;
        above = above;
        depth = d;
        kind = reading.file (length (content b)) (room b);
        bytes = content b;
      })
  unfolding line_of
  file_match up d pre here above n r a b t s h l w = record {
    depth = refl;
    kind = file-kind r b s.1;
    way = pre ++ (a.body ∷ []);
    path = way_last pre a.body w.spelled w.path.valid s.0.valid l;
    ref = rw (w.reached (a.body ∷ []), w.last a.body [] (first-named a.body t)) (rw (child_at, same_refl a.body));
    up = pre;
    above = w.path;
    parent = at_up up pre here above _ w;
    top = λ z. absurd (name_some a.body s.0.valid z);
    name = λ z. rw (name-there os once n r a b t h) (s.0.is_name, refl);
    bytes = λ x y z.
        rw (file-there os once n r a b t h) (record { is_file = s.1.is_file; content = refl; size = size-content b s.1.fits });
  }

  dir_match : (up d : ℕ) (pre : List (List ℕ)) (here above : List ℕ) (n r : ℕ) (a b : Block) (c t : Node) → Stands up (dir n r a b c t)
      → Among os (dir n r a b c t) → length pre < 16 → Row up pre here above (dir n r a b c t)
      → Matches os root rb top (line_of r up n d b)
      (record {
        path = here ++ a.body;
        name = a.body;
        above = above;
        depth = d;
        kind = directory (taken_in (book_of c)) (slots_in (book_of c));
        bytes = [];
      })
  unfolding line_of
  dir_match up d pre here above n r a b c t s h l w = record {
    depth = refl;
    kind = dir_kind r up b c s.1 s.3;
    way = pre ++ (a.body ∷ []);
    path = way_last pre a.body w.spelled w.path.valid s.0.valid l;
    ref = rw (w.reached (a.body ∷ []), w.last a.body [] (first-named a.body t)) (rw (child_at, same_refl a.body));
    up = pre;
    above = w.path;
    parent = at_up up pre here above _ w;
    top = λ z. absurd (name_some a.body s.0.valid z);
    name = λ z. rw (name-there os once n r a b t (of_dir os once n r a b c t h)) (s.0.is_name, refl);
    bytes = λ x y z. no_file (taken_in (book_of c)) (slots_in (book_of c)) x y z;
  }

  -- a row, and the rows below it
  rows_match : (up d : ℕ) (pre : List (List ℕ)) (here above : List ℕ) (c : Node) → Stands up c → Among os c → length pre + height c ≤ 16
      → Row up pre here above c → Each (Matches os root rb top) (row_lines up d c) (entries_in (book_of c) here above d)
  unfolding entries_in
  rows_match up d pre here above end s h l w = neither
  rows_match up d pre here above (empty t) s h l w = rows_match up d pre here above t s h l (shorter w (λ v ws. w.last v ws))
  rows_match up d pre here above (file n r a b t) s h l w =
      both (file_match up d pre here above n r a b t s h (omega arith) w)
      (rows_match up d pre here above t s.3 (rest_of os once n r a b t h) (omega arith) (past_file n r a b t s.2 w))
  rows_match up d pre here above (dir n r a b c t) s h l w =
      both (dir_match up d pre here above n r a b c t s h (omega arith) w)
      (each_append
      (rows_match r (suc d) (pre ++ (a.body ∷ [])) _ _ c s.3 (row_of_lem os once n r a b c t h)
      (omega (arith, length-append pre (a.body ∷ [])))
      (below up pre here above n r a b c t s.0.valid (omega arith) w))
      (rows_match up d pre here above t s.4 (rest_of os once n r a b t (of_dir os once n r a b c t h)) (omega arith)
      (past_dir n r a b t s.2 c w)))

  -- the root's row
  top-row : Row root [] slash slash top
  unfolding joined
  top-row = record { block = rb; whole = top; reached = λ ws. refl; last = λ w ws h. refl; spelled = refl; path = way_root }

-- ---- the whole listing

-- the root's line
root_match : (os : Objects) (root : ℕ) (b : Block) (c : Node) → Rep os root b c
    → Matches os root b c (line_of root root 0 0 b)
    (record { path = slash; name = []; above = slash; depth = 0; kind = directory (taken_in (book_of c)) (slots_in (book_of c)); bytes = [] })
unfolding line_of
root_match os root b c p = record {
  depth = refl;
  kind = dir_kind root root b c p.top p.row;
  way = [];
  path = way_root;
  ref = refl;
  up = [];
  above = way_root;
  parent = refl;
  top = λ z. refl;
  name = λ z. absurd (z refl);
  bytes = λ x y z. no_file (taken_in (book_of c)) (slots_in (book_of c)) x y z;
}

-- every line matches its entry
pub listing_matches : (os : Objects) (root : ℕ) (b : Block) (c : Node) → Rep os root b c
    → Each (Matches os root b c) (object_lines 16 os root root 0 0) (entries (book_of c))
unfolding entries
listing_matches os root b c p =
    rw (root-lines os root b c p)
    (both (root_match os root b c p)
    (rows_match os p.once root b c root 1 [] slash slash c p.row (among_top os root b c p) (omega (arith, p.low))
    (top-row os p.once root b c)))
