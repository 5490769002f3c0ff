-- A part of the vertices whose peak is not above the best gain holds no better pair, so that a search passes over it. Rests on Open, Peak
-- and OpenLaw. Assumes nothing.
use Rattle.std.specs.Prelude.{◌≡◌, Bool, false, List, ℕ, ◌+◌, ◌-◌, ◌*◌, ◌/◌, ◌^◌, ◌≤◌, ◌<◌, get_or, ℤ, pos}
use Rattle.std.proofs.Common.{sym, ◌∙◌, subst, true≢false, arith}
use Rattle.std.specs.Int.Signed.{mag, lt_z}
use Rattle.best_move.specs.declared.open.Lead.{Lead}
use Rattle.best_move.specs.Open.{gain_in, best_to, Leads}
use Rattle.best_move.specs.OpenLaw.{lead-rests}
use Rattle.best_move.specs.Peak.{lesser, Peaked, not-below}

-- the gain of a vertex and a block, both from 1, in part c
part-under : (gains peaks : List ℤ) (n k c v b : ℕ) → Peaked gains peaks n k → 64 * c < v → v ≤ lesser (64 * c + 64) n → 1 ≤ b → b ≤ k
    → lt_z (get_or peaks c (pos 0)) (gain_in gains v b) ≡ false
part-under gains peaks n k c v b p l u lb ub =
    let e : (v - 1) / 64 ≡ c = omega arith in
    subst (λ (x : ℕ). lt_z (get_or peaks x (pos 0)) (gain_in gains v b) ≡ false) e (p.under (v - 1) (b - 1) (omega arith) (omega arith)).0

pub passed_over : (may : ℕ → ℕ → Bool) (gains peaks : List ℤ) (n k c : ℕ) (lead : Lead) → Peaked gains peaks n k → 64 * c < n → mag (get_or peaks c (pos 0)) < 2 ^ 31
    → lt_z lead.top (get_or peaks c (pos 0)) ≡ false → Leads lead (best_to may (gain_in gains) k (64 * c)) → Leads lead (best_to may (gain_in gains) k (lesser (64 * c + 64) n))
passed_over may gains peaks n k c lead p l small t h =
    lead-rests may (gain_in gains) k (64 * c) (lesser (64 * c + 64) n) lead (omega arith)
    (λ v b lv uv lb ub _. (
      λ z. absurd (true≢false (sym (h.below z (get_or peaks c (pos 0)) small) ∙ t)),
      not-below lead.top (get_or peaks c (pos 0)) (gain_in gains v b) t (part-under gains peaks n k c v b p lv uv lb ub),
    )) h
