-- The table of the bench holds.
use mathlib.Core.Path.{◌≡◌, refl}
use mathlib.Core.Bool.{true}
use Rattle.storage.specs.Bytes.{be32, be64, u32_at, u64_at, splice, zeros, same}
use Rattle.alloc.specs.Block.{bytes, render, front, after, parse, blocks_of, magic_at, size_at}
use Rattle.alloc.specs.Tiling.{length_allowed, other_kind, kind_allowed, block_stands, first_bad, tiling_breaker}
use Rattle.alloc.specs.Volume.{first_free, to_blocks, superblock, image, from_blocks, volume_of, objects_from, objects, block_at, linked, chained}
use Rattle.alloc.specs.Room.{carved, place, place_two, place_pair, wiped, coalesced, released, updated}
use Rattle.alloc.specs.Gaps.{gaps, tightest}
use Rattle.path.specs.Name as name
use Rattle.path.specs.Name.{followers, lowest, highest, awaited, valid_name}
use Rattle.path.specs.Path.{parts, components, all_valid, valid_path, all_but_last}
use Rattle.tree.specs.Fields.{slots_from, slots, taken_count, content}
use Rattle.tree.specs.Rules.{root_stands, slots_stand, namings, all_namings, named_once, climb, depth_allowed, name_in, distinct, names_stand, file_stands}
use Rattle.tree.specs.Verdict.{breaker, verdict_on, verdict, well_formed}
use Rattle.calls.specs.Refusal.{check}
use Rattle.calls.specs.Walk.{first_slot, step, walk, opening, start, start_above, last_name}
use Rattle.calls.specs.Reading.{find, read, read_point}
use Rattle.changes.specs.Changing.{formatted, format, fill_slot, make_in, make, remove_in, remove, write, set_length}
use Rattle.test_bench.specs.Table.{run, says, stands, all_stand, follow, holds, all_hold, table}

-- every row of the table holds, by computing it
pub bench : all_hold table ≡ true
unfolding be32 be64 u32_at u64_at splice zeros same
    bytes render front after parse blocks_of magic_at size_at
    length_allowed other_kind kind_allowed block_stands first_bad tiling_breaker
    first_free to_blocks superblock image from_blocks volume_of objects_from objects block_at linked chained
    gaps tightest carved place place_two place_pair wiped coalesced released updated
    name.allowed followers lowest highest awaited valid_name parts components all_valid valid_path all_but_last
    slots_from slots taken_count content root_stands slots_stand namings all_namings named_once climb depth_allowed name_in distinct names_stand file_stands
    breaker verdict_on verdict well_formed check
    first_slot step walk opening start start_above last_name find read read_point
    formatted format fill_slot make_in make remove_in remove write set_length
    run says stands all_stand follow holds all_hold table
bench = refl
