-- write_u32: the four bytes stand in the place of the part.
use Rattle.std.proofs.Common.{arith, ◌∙◌}
use Rattle.storage.proofs.Runs.{put_mid-splice, be32-bytes}
use Rattle.storage.proofs.Numbers.{length-be32}
use Rattle.storage.proofs.write_u32.Goals as goal

pub returns : goal.returns
returns c = put_mid-splice _ _ _ _ _ (c.copy_from_slice.ensures.after ∙ c.to_be_bytes-bytes.ensures ∙ be32-bytes _) (omega (arith, length-be32 c.args.n))
