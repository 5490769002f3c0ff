-- What the hall's entry over columns promises: model's `HallServes`, with how many lots of each catalogue are known at the end. Rests on Sets and on hall_file's
-- Worked. Assumes nothing.
use Rattle.std.specs.Prelude.{ℕ, ◌<◌, ◌≤◌, ◌≡◌, refl, Bool, true, false, List, length, get_or, drop, replicate}
use Rattle.std.proofs.Common.{arith, sym, ap, ◌∙◌, subst, length-append}
use Rattle.laws.specs.Fold.{zeros-get}
use Rattle.model.specs.HallText.{HallReading, parse_hall, hall_outcome}
use Rattle.model.specs.HallDemand.{HallMemory, long_hall, HallWorked, HallServed, HallServes}
use Rattle.hall_file.specs.Worked.{lots_known, LotsAre}

-- how many lots' entries of the set at place c are written, by whether lent memory is long enough
abbrev pub lots_written : Bool → HallReading → ℕ → ℕ
lots_written true r c = lots_known r c
lots_written false r c = 0

pub record ServesHall (file : List ℕ) (old new : HallMemory) (code bytes : ℕ) (lots : List ℕ) : Type 0 where
  pub serves : HallServes file old new code bytes
  pub lots-are : (c : ℕ) → c < 4 → get_or lots c 0 ≡ lots_written (long_hall old) (parse_hall file) c

module _ (file : List ℕ) (m : HallMemory) {r : Bool} (e : r ≡ long_hall m) where
  pub too_short : r ≡ false → ServesHall file m m 8 0 (replicate 4 0)
  too_short q = record {
    serves = subst (λ (b : Bool). HallServed b (parse_hall file) m m 8 0) (sym (sym e ∙ q)) (record { code_is = refl; nothing = refl; output = refl; sets = λ c l. refl });
    lots-are = λ c l. zeros-get 4 c ∙ ap (λ (b : Bool). lots_written b (parse_hall file) c) (sym (sym e ∙ q));
  }

  pub served : (m' : HallMemory) {code bytes : ℕ} {lots : List ℕ} → r ≡ true → HallWorked (parse_hall file) m m' code bytes × LotsAre (parse_hall file) lots → ServesHall file m m' code bytes lots
  served m' {code} {bytes} q w = record {
    serves = subst (λ (b : Bool). HallServed b (parse_hall file) m m' code bytes) (sym (sym e ∙ q)) w.0;
    lots-are = λ c l. w.1.each c l ∙ ap (λ (b : Bool). lots_written b (parse_hall file) c) (sym (sym e ∙ q));
  }

-- the bytes written lie in the output
pub bytes-in : (file : List ℕ) (m m' : HallMemory) (code bytes : ℕ) → HallServes file m m' code bytes → bytes ≤ length m'.output
bytes-in file m m' code bytes s = go (long_hall m) s
  where
    go : (b : Bool) → HallServed b (parse_hall file) m m' code bytes → bytes ≤ length m'.output
    go false u = omega (arith, u.nothing)
    go true w = omega (arith, w.output.bytes, ap length w.output.output, length-append (hall_outcome (parse_hall file)).report (drop bytes m.output))
