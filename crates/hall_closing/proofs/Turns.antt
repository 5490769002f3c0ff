-- The loop over a hall's sets: no closing report written yet, one more, all of them. Rests on Closings and on fields' laws. Assumes nothing.
use Prim.Native.Nat.{ℕ, zero, suc, ◌+◌, ◌<◌, ◌≤◌}
use native.Mathlib.Decide.{ℕ_discrete}
use native.Mathlib.Numerals.{add-one}
use native.Mathlib.Omega.{arith}
use mathlib.Core.Path.{◌≡◌, refl, sym, ap, ◌∙◌, subst}
use mathlib.Core.List.{List, [], ◌∷◌, ◌++◌, append_assoc, append-nil}
use lib.ListN.{length, get_or, length-append}
use Rattle.model.specs.Catalogue.{Hypergraph}
use Rattle.model.specs.Machine.{State}
use Rattle.model.specs.Sale.{Sale}
use Rattle.model.specs.Report.{closing}
use Rattle.model.specs.Engine.{draft_total}
use Rattle.model.specs.Hall.{no_desk, closings}
use Rattle.loader.specs.declared.Sizes.{Sizes}
use Rattle.fields.specs.Wrote.{Wrote}
use Rattle.fields.proofs.Laws.{wrote_none, wrote-append}
use Rattle.call_list.specs.declared.course.Course.{Course}
use Rattle.hall_opening.specs.Opening.{no_sizes, no_course}
use Rattle.hall_closing.specs.Closings.{EndedIn, CanCloseSet, closing_at, Close, CanCloseSets}

-- ---- the reports one after another
-- of the first c catalogues
unfoldable pub closings_to : ℕ → List Hypergraph → List Sale → List ℕ
closings_to zero hs ds = []
closings_to (suc c) hs ds = closings_to c hs ds ++ closing_at hs ds c

-- the first apart from those behind it
to-cons : (c : ℕ) (h : Hypergraph) (hs : List Hypergraph) (a : Sale) (ds : List Sale) → closings_to (suc c) (h ∷ hs) (a ∷ ds) ≡ closing (draft_total h) a.graph a.state ++ closings_to c hs ds
unfolding closings_to
to-cons zero h hs a ds = sym (append-nil (closing (draft_total h) a.graph a.state))
to-cons (suc c) h hs a ds =
    ap (λ (t : List ℕ). t ++ closing_at hs ds c) (to-cons c h hs a ds)
    ∙ append_assoc (closing (draft_total h) a.graph a.state) (closings_to c hs ds) (closing_at hs ds c)

to-all : (hs : List Hypergraph) (ds : List Sale) → length ds ≡ length hs → closings_to (length hs) hs ds ≡ closings hs ds
unfolding closings closings_to
to-all [] ds e = refl
to-all (h ∷ hs) [] e = absurd (omega (arith, e))
to-all (h ∷ hs) (a ∷ ds) e = to-cons (length hs) h hs a ds ∙ ap (λ (t : List ℕ). closing (draft_total h) a.graph a.state ++ t) (to-all hs ds (omega (arith, e)))

to-suc : (c : ℕ) (hs : List Hypergraph) (ds : List Sale) → closings_to (suc c) hs ds ≡ closings_to c hs ds ++ closing_at hs ds c
unfolding closings_to
to-suc c hs ds = refl

to-more : (c : ℕ) (hs : List Hypergraph) (ds : List Sale) → closings_to (c + 1) hs ds ≡ closings_to c hs ds ++ closing_at hs ds c
to-more c hs ds = ap (λ (n : ℕ). closings_to n hs ds) (add-one c) ∙ to-suc c hs ds

to_le : (n c : ℕ) (hs : List Hypergraph) (ds : List Sale) → c ≤ n → length (closings_to c hs ds) ≤ length (closings_to n hs ds)
to_le zero c hs ds l = let e : c ≡ 0 = omega arith in omega (arith, ap (λ (k : ℕ). length (closings_to k hs ds)) e)
to_le (suc n) c hs ds l = go (to_le n c hs ds) (ℕ_discrete c (suc n))
  where
    go : (c ≤ n → length (closings_to c hs ds) ≤ length (closings_to n hs ds)) → Dec (c ≡ suc n) → length (closings_to c hs ds) ≤ length (closings_to (suc n) hs ds)
    go ih (yes e) = omega (arith, ap (λ (k : ℕ). length (closings_to k hs ds)) e)
    go ih (no d) = omega (arith, ih (omega (arith, d)), ap length (to-suc n hs ds), length-append (closings_to n hs ds) (closing_at hs ds n))

-- ---- the loop
module _ (out : List ℕ) (at count : ℕ) (blocks aboves visited : List (List ℕ)) (courses : List Course) (sizes : List Sizes) (drafts : List ℕ) where
  -- the first c reports are written, and end at p
  pub record CloseTo (c : ℕ) (now : List ℕ) (p : ℕ) : Type 0 where
    pub can : CanCloseSets (length out) at count blocks aboves visited courses sizes drafts
    pub c-le : c ≤ count
    pub same : length now ≡ length out
    pub wrote : (hs : List Hypergraph) (ds : List Sale) → Close count hs ds blocks aboves visited courses sizes drafts → Wrote out now at (closings_to c hs ds) p

module _ {out : List ℕ} {at count : ℕ} {blocks aboves visited : List (List ℕ)} {courses : List Course} {sizes : List Sizes} {drafts : List ℕ} where
  pub close-none : CanCloseSets (length out) at count blocks aboves visited courses sizes drafts → CloseTo out at count blocks aboves visited courses sizes drafts 0 out at
  unfolding closings_to
  close-none k = record { can = k; c-le = omega arith; same = refl; wrote = λ hs ds d. wrote_none out at }

  module _ {c : ℕ} {now : List ℕ} {p : ℕ} (o : CloseTo out at count blocks aboves visited courses sizes drafts c now p) where
    -- all that is to be written fits
    all_fit : (n : ℕ) → n ≤ count → at + length (closings_to n o.can.hs o.can.ds) ≤ length out
    all_fit n l =
        let k = o.can in
        omega (arith, k.fits, ap length (to-all k.hs k.ds (k.close.desks ∙ sym k.close.catalogues)), to_le (length k.hs) n k.hs k.ds (omega (arith, k.close.catalogues)))

    module _ (l : c < count) where
      -- a set's report by its draft's total
      closing-is : (hs : List Hypergraph) (ds : List Sale) → Close count hs ds blocks aboves visited courses sizes drafts → closing (get_or drafts c 0) (get_or ds c no_desk).graph (get_or ds c no_desk).state ≡ closing_at hs ds c
      closing-is hs ds d = ap (λ (t : ℕ). closing t (get_or ds c no_desk).graph (get_or ds c no_desk).state) (d.drafts-are c l)

      pub can-next : CanCloseSet (length now) p c blocks aboves visited (get_or courses c no_course) (get_or sizes c no_sizes).nets (get_or drafts c 0)
      can-next =
          let k = o.can in
          record {
            whole = k.whole;
            known = omega (arith, k.few);
            fits = record {
              h = (get_or k.ds c no_desk).graph;
              s = (get_or k.ds c no_desk).state;
              ended = k.close.ended c l;
              fits = omega (
                arith,
                o.same,
                (o.wrote k.hs k.ds k.close).ends,
                all_fit (c + 1) (omega arith),
                ap length (to-more c k.hs k.ds),
                length-append (closings_to c k.hs k.ds) (closing_at k.hs k.ds c),
                ap length (closing-is k.hs k.ds k.close),
              );
            };
          }

      pub close_more : {now' : List ℕ} {r : ℕ} → length now' ≡ length now
          → ((h : Hypergraph) (s : State) → EndedIn h s c blocks aboves visited (get_or courses c no_course) (get_or sizes c no_sizes).nets (get_or drafts c 0) → Wrote now now' p (closing (get_or drafts c 0) h s) r)
          → CloseTo out at count blocks aboves visited courses sizes drafts (c + 1) now' r
      close_more {now'} {r} e w = record {
        can = o.can;
        c-le = omega arith;
        same = e ∙ o.same;
        wrote = λ hs ds d.
            let first = o.wrote hs ds d in
            let next : Wrote now now' p (closing_at hs ds c) r = subst (λ (t : List ℕ). Wrote now now' p t r) (closing-is hs ds d) (w (get_or ds c no_desk).graph (get_or ds c no_desk).state (d.ended c l)) in
            let k = o.can in
            subst (λ (t : List ℕ). Wrote out now' at t r) (sym (to-more c hs ds)) (wrote-append (omega (arith, first.ends, (o.wrote k.hs k.ds k.close).ends, all_fit c o.c-le)) first next);
      }

    pub close-all : count ≤ c → (hs : List Hypergraph) (ds : List Sale) → Close count hs ds blocks aboves visited courses sizes drafts → Wrote out now at (closings hs ds) p
    close-all l hs ds d =
        let n : c ≡ length hs = omega (arith, o.c-le, d.catalogues) in
        subst (λ (t : List ℕ). Wrote out now at t p) (ap (λ (n : ℕ). closings_to n hs ds) n ∙ to-all hs ds (d.desks ∙ sym d.catalogues)) (o.wrote hs ds d)
