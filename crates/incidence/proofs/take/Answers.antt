-- `take` clears one bit: Word's `clear-law`, carried to the whole bitset by `changed`.
use Rattle.std.proofs.Common.{◌%◌, arith}
use Rattle.incidence.specs.Word.{clear-law}
use Rattle.incidence.specs.On.{changed}
use Rattle.incidence.proofs.take.Goals as goal

pub returns : goal.returns
returns c =
    changed c.args.bits.now c.args.x c.args.e 0 _ c.requires.0 c.requires.1 (clear-law _ (c.args.e % 64) (omega arith))
