-- An image is known to be sound in one way at most, so that a handle may carry it.
use Prim.Native.Nat.{ℕ}
use mathlib.Core.List.{List, [], ◌∷◌}
use Rattle.std.proofs.Props.{props}
use Rattle.alloc.specs.Volume.{Extent, allocated, free}
use Rattle.alloc.specs.Sound.{SoundExtent, AllSound, Sound, Holds}

sound-extent_once : (e : Extent) → IsProp (SoundExtent e)
sound-extent_once (allocated b) = hlevel props
sound-extent_once (free u left) = hlevel props

all-sound_once : (es : List Extent) → IsProp (AllSound es)
unfolding AllSound
all-sound_once [] = hlevel props
all-sound_once (e ∷ es) = hlevel (sound-extent_once e, all-sound_once es)

pub sound_once : (s : List ℕ) → IsProp (Sound s)
sound_once s = hlevel (props, all-sound_once)

pub holds_once : (s : List ℕ) (t : ℕ) → IsProp (Holds s t)
holds_once s t = hlevel (props, all-sound_once)
