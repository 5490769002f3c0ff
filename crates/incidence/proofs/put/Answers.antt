-- `put` sets one bit: Word's `set-law`, carried to the whole bitset by `changed`.
use Rattle.std.proofs.Common.{◌%◌, arith}
use Rattle.incidence.specs.Word.{set-law}
use Rattle.incidence.specs.On.{changed}
use Rattle.incidence.proofs.put.Goals as goal

pub returns : goal.returns
returns c =
    changed c.args.bits.now c.args.x c.args.e 1 _ c.requires.0 c.requires.1 (set-law _ (c.args.e % 64) (omega arith))
