-- One call line more at the end of a list: the sale, the answers, and the loader's table of calls. Rests on model's Engine and Lent. Assumes nothing.
use Rattle.std.specs.Prelude.{ℕ, zero, suc, ◌+◌, ◌*◌, ◌<◌, ◌≤◌, ◌≡◌, refl, List, [], ◌∷◌, ◌++◌, length, get_or}
use Rattle.std.proofs.Math.Decide.{ℕ_discrete}
use Rattle.std.proofs.Common.{add-one, arith, sym, ap, ◌∙◌, append_assoc, append-nil, length-append}
use Rattle.model.specs.Catalogue.{Limits}
use Rattle.model.specs.Sale.{Request, Sale, turn}
use Rattle.model.specs.Grammar.{Asked, asks, nothing, call_of}
use Rattle.model.specs.Report.{answer_row}
use Rattle.model.specs.Engine.{after, answers}
use Rattle.model.specs.Lent.{listed, calls_of}

pub after_more : (limits : Limits) (a : Sale) (before : List Request) (c : Request) → after limits a (before ++ (c ∷ [])) ≡ (turn limits (after limits a before) c).sale
unfolding after
after_more limits a [] c = refl
after_more limits a (b ∷ before) c = after_more limits (turn limits a b).sale before c

pub answers-more : (limits : Limits) (a : Sale) (before : List Request) (c : Request) → answers limits a (before ++ (c ∷ [])) ≡ answers limits a before ++ answer_row (turn limits (after limits a before) c).answer
unfolding after answers
answers-more limits a [] c = append-nil (answer_row (turn limits a c).answer)
answers-more limits a (b ∷ before) c =
    ap (λ (r : List ℕ). answer_row (turn limits a b).answer ++ r) (answers-more limits (turn limits a b).sale before c)
    ∙ sym (append_assoc (answer_row (turn limits a b).answer) (answers limits (turn limits a b).sale before) (answer_row (turn limits (after limits (turn limits a b).sale before) c).answer))

-- ---- the table of calls, three numbers each
-- the numbers of call i, from 0
abbrev pub call_at : List ℕ → List ℕ → ℕ → Asked
call_at operands t i = call_of operands (get_or t (3 * i) 0) (get_or t (3 * i + 1) 0) (get_or t (3 * i + 2) 0)

-- call i of the table, which follows the calls before it
pub record NextCall (operands t : List ℕ) (i : ℕ) : Type 0 where
  pub next : Request
  pub asked : call_at operands t i ≡ asks next
  pub more : calls_of operands (i + 1) t ≡ calls_of operands i t ++ (next ∷ [])

listed_le : (a : Asked) → length (listed a) ≤ 1
listed_le (asks c) = omega arith
listed_le nothing = omega arith

calls-le : (operands : List ℕ) (n : ℕ) (t : List ℕ) → length (calls_of operands n t) ≤ n
unfolding calls_of
calls-le operands zero t = omega arith
calls-le operands (suc n) t = omega (arith, length-append (calls_of operands n t) (listed (call_at operands t n)), calls-le operands n t, listed_le (call_at operands t n))

-- where no place of n has no call, no place below n has none
calls-known : (operands : List ℕ) (n : ℕ) (t : List ℕ) → length (calls_of operands n t) ≡ n → (i : ℕ) → i ≤ n → length (calls_of operands i t) ≡ i
unfolding calls_of
calls-known operands zero t q i l = let e : i ≡ 0 = omega arith in rw e
calls-known operands (suc n) t q i l = go (ℕ_discrete i (suc n)) (calls-known operands n t (omega (arith, length-append (calls_of operands n t) (listed (call_at operands t n)), calls-le operands n t, listed_le (call_at operands t n))) i)
  where
    go : Dec (i ≡ suc n) → (i ≤ n → length (calls_of operands i t) ≡ i) → length (calls_of operands i t) ≡ i
    go (yes e) below = ap (λ (j : ℕ). length (calls_of operands j t)) e ∙ q ∙ sym e
    go (no ne) below = below (omega arith)

next-call : (operands t : List ℕ) (i : ℕ) (a : Asked) → call_at operands t i ≡ a → 1 ≤ length (listed a) → NextCall operands t i
unfolding calls_of
next-call operands t i (asks c) q l = record { next = c; asked = q; more = ap (λ (j : ℕ). calls_of operands j t) (add-one i) ∙ ap (λ (a : Asked). calls_of operands i t ++ listed a) q }
next-call operands t i nothing q l = absurd (omega arith)

pub calls_of-more : (operands : List ℕ) (n : ℕ) (t : List ℕ) → length (calls_of operands n t) ≡ n → (i : ℕ) → i < n → (length (calls_of operands i t) ≡ i) × NextCall operands t i
unfolding calls_of
calls_of-more operands n t q i l =
    let known : length (calls_of operands i t) ≡ i = calls-known operands n t q i (omega arith) in
    (known, next-call operands t i (call_at operands t i) refl (omega (arith, calls-known operands n t q (suc i) (omega arith), length-append (calls_of operands i t) (listed (call_at operands t i)))))
