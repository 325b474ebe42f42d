-- The worked history, by computing it.
use mathlib.Core.List.{[], ◌∷◌}
use mathlib.Core.Path.{◌≡◌, refl}
use Rattle.storage.specs.Bytes.{be32, be64, u32_at, u64_at, splice, zeros, same}
use Rattle.alloc.specs.Block.{bytes, render, front, after, parse, blocks_of, magic_at, size_at}
use Rattle.alloc.specs.Tiling.{length_allowed, other_kind, kind_allowed, block_stands, first_bad, tiling_breaker}
use Rattle.alloc.specs.Volume.{first_free, to_blocks, superblock, image, from_blocks, volume_of, objects_from, objects, block_at, linked, chained}
use Rattle.alloc.specs.Room.{carved, place, place_two, place_pair, wiped, coalesced, released, updated}
use Rattle.alloc.specs.Gaps.{gaps, tightest}
use Rattle.path.specs.Name as name
use Rattle.path.specs.Name.{followers, lowest, highest, awaited, valid_name}
use Rattle.path.specs.Path.{parts, components, all_valid, valid_path, all_but_last}
use Rattle.tree.specs.Fields.{slots_from, slots, taken_count, content}
use Rattle.tree.specs.Rules.{root_stands, slots_stand, namings, all_namings, named_once, climb, depth_allowed, name_in, distinct, names_stand, file_stands}
use Rattle.tree.specs.Verdict.{breaker, verdict_on, verdict, well_formed}
use Rattle.calls.specs.Refusal.{check}
use Rattle.calls.specs.Walk as walks
use Rattle.calls.specs.Walk.{first_slot, walk, opening, start, start_above, last_name}
use Rattle.changes.specs.Changing.{formatted, format, fill_slot, make_in, make, remove_in, remove, write, set_length}
use Rattle.history.specs.Book.{empty_slots, added, in_child, in_directory, changed, emptied, written, resized}
use Rattle.history.specs.Claim.{taken_in, slots_in, entries_in, entries, owned, chain_from, line_owners, owners}
use Rattle.history.specs.History.{step, booked, history}
use Rattle.history.specs.Listing.{line_of, slot_lines, object_lines, lines_of, list}
use Rattle.history.specs.TreeOf.{tree_row, tree_at, tree_of}
use Rattle.history.specs.Bench.{blank, calls, answers, early, removed, late, moment, early_moment, removed_moment, late_moment, unused, nothing_listed}

-- /b finds no slot, and is refused with 7; and what stands at the three moments
pub worked : (answers blank.image calls ≡ 0 ∷ 0 ∷ 0 ∷ 0 ∷ 7 ∷ 0 ∷ 0 ∷ []) × (moment early ≡ early_moment) × (moment removed ≡ removed_moment) × (moment late ≡ late_moment)
    × (list [] (unused ∷ []) ≡ nothing_listed)
unfolding be32 be64 u32_at u64_at splice zeros same
    bytes render front after parse blocks_of magic_at size_at
    length_allowed other_kind kind_allowed block_stands first_bad tiling_breaker
    first_free to_blocks superblock image from_blocks volume_of objects_from objects block_at linked chained
    gaps tightest carved place place_two place_pair wiped coalesced released updated
    name.allowed followers lowest highest awaited valid_name parts components all_valid valid_path all_but_last
    slots_from slots taken_count content root_stands slots_stand namings all_namings named_once climb depth_allowed name_in distinct names_stand file_stands
    breaker verdict_on verdict well_formed check
    first_slot walks.step walk opening start start_above last_name
    formatted format fill_slot make_in make remove_in remove write set_length
    empty_slots added in_child in_directory changed emptied written resized
    step booked history tree_row tree_at tree_of line_of slot_lines object_lines lines_of list
    taken_in slots_in entries_in entries owned chain_from line_owners owners answers early removed late moment
worked = (refl, refl, refl, refl, refl)
