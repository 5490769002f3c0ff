-- The search for the best pair by bounds: vertices of the highest bound are rated until one of them keeps it. That its pair is then the best,
-- and that the search ends. Rests on BoundLaw and JoinPair. Assumes nothing.
use Rattle.std.specs.Prelude.{◌≡◌, refl, Bool, true, false, cond, List, ℕ, ◌+◌, ◌-◌, ◌*◌, ◌≤◌, ◌<◌, eqb, length, get_or, set}
use Rattle.std.proofs.Common.{sym, ap, ap₂, ◌∙◌, subst, arith, eq-eqb, ne_eqb, length-set, get_or-set_same, get_or-set_other}
use Rattle.std.proofs.Math.Decide.{ℕ_discrete, dec_lt}
use Rattle.laws.specs.Sum.{sum, sum-change}
use Rattle.best_contraction.specs.Bound.{Bounded, Highest}
use Rattle.best_contraction.specs.PartnerLaw.{top_to, top-over, top-under}
use Rattle.best_contraction.specs.JoinLaw.{join_to, join-under, join-at}
use Rattle.best_contraction.specs.JoinPair.{BestJoin, join_of-none, best-join}
use Rattle.best_contraction.specs.declared.join.Join.{Join}

-- u is rated: its best pair, its new bound, and the vertex of the highest bound then
pub record Rates (score : ℕ → ℕ → ℕ) (n : ℕ) (l l' : List ℕ) (u rating into gone top : ℕ) : Type 0 where
  pub into-is : into ≡ u
  pub rating-is : rating ≡ (top_to (score u) n).rating
  pub gone-is : gone ≡ (top_to (score u) n).vertex
  pub bounds-are : l' ≡ set l u rating
  pub high : Highest l' n top

-- what holds between ratings
pub record Settling (score : ℕ → ℕ → ℕ) (n : ℕ) (l : List ℕ) (rating into gone top : ℕ) : Type 0 where
  pub bounded : Bounded score n l
  pub low : 1 ≤ into
  pub within : into ≤ n
  pub rating-is : rating ≡ (top_to (score into) n).rating
  pub gone-is : gone ≡ (top_to (score into) n).vertex
  pub held : get_or l into 0 ≡ rating
  pub high : Highest l n top

pub settling : {score : ℕ → ℕ → ℕ} {n : ℕ} {l l' : List ℕ} {u rating into gone top : ℕ} → Bounded score n l → 1 ≤ u → u ≤ n → n ≤ 1024 → Rates score n l l' u rating into gone top → Settling score n l' rating into gone top
settling {score} {n} {l} {l'} {u} {rating} {into} {gone} {top} b ul uu small r = record {
  bounded = record { len = ap length r.bounds-are ∙ length-set l u rating ∙ b.len; above = λ x z xl xu zl zu. go x z xl xu zl zu (ℕ_discrete x u) };
  low = omega (arith, r.into-is);
  within = omega (arith, r.into-is);
  rating-is = r.rating-is ∙ ap (λ (k : ℕ). (top_to (score k) n).rating) (sym r.into-is);
  gone-is = r.gone-is ∙ ap (λ (k : ℕ). (top_to (score k) n).vertex) (sym r.into-is);
  held = ap (λ (k : ℕ). get_or l' k 0) r.into-is ∙ here;
  high = r.high;
}
  where
    here : get_or l' u 0 ≡ rating
    here = ap (λ (k : List ℕ). get_or k u 0) r.bounds-are ∙ get_or-set_same l u rating 0 (omega (arith, b.len))

    go : (x z : ℕ) → 1 ≤ x → x ≤ n → 1 ≤ z → z ≤ n → Dec (x ≡ u) → score x z ≤ get_or l' x 0
    go x z xl xu zl zu (yes q) = subst (λ (k : ℕ). score k z ≤ get_or l' k 0) (sym q) (omega (arith, here, r.rating-is, top-over (score u) n z zl zu))
    go x z xl xu zl zu (no q) = omega (arith, b.above x z xl xu zl zu, ap (λ (k : List ℕ). get_or k x 0) r.bounds-are, get_or-set_other l u x rating 0 q)

-- ---- it ends

-- what each rating makes less: bounds only fall, and where one stays as it was, its vertex keeps the highest
abbrev pub effort : List ℕ → ℕ → ℕ → ℕ
effort l into top = 2 * sum 1025 (λ x. get_or l x 0) + cond (eqb top into) 0 1

same-top : (l l' : List ℕ) (n t t' : ℕ) → ((x : ℕ) → get_or l' x 0 ≡ get_or l x 0) → Highest l n t → Highest l' n t' → t' ≡ t
same-top l l' n t t' e h k = go (dec_lt t t') (dec_lt t' t)
  where
    go : Dec (t < t') → Dec (t' < t) → t' ≡ t
    go (yes a) b = absurd (omega (arith, k.first t h.low a, h.most t' k.low k.high, e t, e t'))
    go (no a) (yes b) = absurd (omega (arith, h.first t' k.low b, k.most t h.low h.high, e t, e t'))
    go (no a) (no b) = omega arith

cond-one : (b : Bool) → cond {A = ℕ} b 0 1 ≤ 1
cond-one true = omega arith
cond-one false = omega arith

pub effort-less : {score : ℕ → ℕ → ℕ} {n : ℕ} {l l' : List ℕ} {rating into gone top rating' into' gone' top' : ℕ} → n ≤ 1024 → Settling score n l rating into gone top → (top ≡ into → ⊥)
    → Rates score n l l' top rating' into' gone' top' → effort l' into' top' < effort l into top
effort-less {score} {n} {l} {l'} {rating} {into} {gone} {top} {rating'} {into'} {gone'} {top'} small s two r = go (dec_lt rating' (get_or l top 0))
  where
    fits : top < length l
    fits = omega (arith, s.bounded.len, s.high.high)

    here : get_or l' top 0 ≡ rating'
    here = ap (λ (k : List ℕ). get_or k top 0) r.bounds-are ∙ get_or-set_same l top rating' 0 fits

    there : (x : ℕ) → (x ≡ top → ⊥) → get_or l' x 0 ≡ get_or l x 0
    there x q = ap (λ (k : List ℕ). get_or k x 0) r.bounds-are ∙ get_or-set_other l top x rating' 0 q

    falls : rating' ≤ get_or l top 0
    falls = omega (arith, r.rating-is, top-under (score top) (get_or l top 0) n (λ z zl zu. s.bounded.above top z s.high.low s.high.high zl zu))

    change : sum 1025 (λ x. get_or l' x 0) + get_or l top 0 ≡ sum 1025 (λ x. get_or l x 0) + get_or l' top 0
    change = sum-change 1025 top (λ x. get_or l' x 0) (λ x. get_or l x 0) (omega (arith, s.high.high)) (λ x _ q. there x q)

    open-yet : cond {A = ℕ} (eqb top into) 0 1 ≡ 1
    open-yet = ap (λ (b : Bool). cond {A = ℕ} b 0 1) (ne_eqb top into two)

    go : Dec (rating' < get_or l top 0) → effort l' into' top' < effort l into top
    go (yes q) = omega (arith, change, here, open-yet, cond-one (eqb top' into'))
    go (no q) =
        let again : top' ≡ top = same-top l l' n top top' (λ x. every x (ℕ_discrete x top)) s.high r.high in
        let shut : cond {A = ℕ} (eqb top' into') 0 1 ≡ 0 = ap (λ (b : Bool). cond {A = ℕ} b 0 1) (eq-eqb top' into' (again ∙ sym r.into-is)) in
        omega (arith, change, here, falls, open-yet, shut)
      where
        every : (x : ℕ) → Dec (x ≡ top) → get_or l' x 0 ≡ get_or l x 0
        every x (yes z) = subst (λ (k : ℕ). get_or l' k 0 ≡ get_or l k 0) (sym z) (omega (arith, here, falls))
        every x (no z) = there x z

-- ---- its pair is the best
pub settled : {score : ℕ → ℕ → ℕ} {n : ℕ} {l : List ℕ} {rating into gone top : ℕ} → Settling score n l rating into gone top → top ≡ into → BestJoin score n (record { rating = rating; into = into; gone = gone })
settled {score} {n} {l} {rating} {into} {gone} {top} s e = go (ℕ_discrete rating 0)
  where
    h : Highest l n into
    h = subst (Highest l n) e s.high

    under : (x : ℕ) → 1 ≤ x → x ≤ n → (top_to (score x) n).rating ≤ get_or l x 0
    under x xl xu = top-under (score x) (get_or l x 0) n (λ z zl zu. s.bounded.above x z xl xu zl zu)

    go : Dec (rating ≡ 0) → BestJoin score n (record { rating = rating; into = into; gone = gone })
    go (yes z) =
        let none : (join_to score n n).rating ≡ 0 = omega (arith, join-under score n 0 n (λ x xl xu. omega (arith, under x xl xu, h.most x xl xu, s.held))) in
        let b : BestJoin score n (join_to score n n) = best-join score n (join_to score n n) refl in
        record { same = join_of-none (record { rating = rating; into = into; gone = gone }) z ∙ sym (join_of-none (join_to score n n) none) ∙ b.same; within = λ l. absurd (omega arith) }
    go (no z) = best-join score n (record { rating = rating; into = into; gone = gone }) (
        ap₂ {A = ℕ} {B = ℕ} {C = Join} (λ a b. record { rating = a; into = into; gone = b }) s.rating-is s.gone-is
        ∙ sym (join-at score n into
        (λ x xl xu. omega (arith, under x xl (omega (arith, s.within)), h.first x xl xu, s.held, s.rating-is))
        s.low (omega (arith, s.rating-is)) n s.within
        (λ x xl xu. omega (arith, under x xl xu, h.most x xl xu, s.held, s.rating-is))))
