-- `fields::put_word` meets its contract: the part of the buffer becomes the word.
use Rattle.std.proofs.Common.{ℕ, List, ◌+◌, ◌++◌, refl, ap, ◌∙◌, length, take, drop, arith}
use Rattle.std.proofs.lemmas.Slice.{put_mid-paste}
use Rattle.std.proofs.Math.Seq.{take-length}
use Rattle.text.specs.Output.{written}
use Rattle.fields.proofs.put_word.Goals as goal

pub returns : goal.returns
unfolding written
returns c =
    let a = c.args in
    let w = a.w.now in
    record {
      ends = refl;
      is = put_mid-paste a.at _ a.out.now _ w (length w) c.copy_from_slice.ensures.after (omega arith) refl ∙ ap (λ (t : List ℕ). take a.at a.out.now ++ t ++ drop (a.at + length w) a.out.now) (take-length w);
    }
