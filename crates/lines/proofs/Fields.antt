-- The marks of a line, field by field. Rests on Stamps.
use Prim.Native.Nat.{ℕ, ◌+◌, ◌≤◌, ◌<◌}
use mathlib.Core.Path.{◌≡◌, refl, ap, sym, ◌∙◌}
use mathlib.Core.List.{List, [], ◌∷◌}
use mathlib.Core.Bool.{Bool, true, false, cond}
use native.Mathlib.Omega.{arith}
use lib.ListN.{length, take}
use lib.Seq.{slice, slice_empty, take-take}
use borrow.Author.Tests.{eq-eqb, ne_eqb}
use Rattle.laws.specs.Fold.{all}
use Rattle.model.specs.Catalogue.{Limits, Hypergraph, vertices}
use Rattle.model.specs.Grammar.{Fields, parts, is_number, value, Marking, marked, wrong, mark, marking}
use Rattle.text.specs.Field.{NumberRead, NumberSeen, counted}
use Rattle.lines.specs.Line.{Past}
use Rattle.lines.specs.Mark.{Stamped, Fresh, mark_seen, MarkOne, refusal_of, tested, MarksRead}
use Rattle.std.specs.Prelude.{None, Ok, Err}
use Rattle.refusal.specs.declared.Refusal.{Refusal}
use Rattle.refusal.specs.declared.Refusal.TheVariants.{BadlyWritten}
use Rattle.refusal.specs.Number.{number_of}
use Rattle.refusal.proofs.Numbers.{never-none}
use Rattle.text.proofs.Lines.{parts-on, parts_last, parts_first, field_end, field_found}
use Rattle.lines.proofs.Stamps.{stamped-start}

marking-cons : (limits : Limits) (h : Hypergraph) (m : Marking) (f : List ℕ) (fs : Fields) → marking limits h m (f ∷ fs) ≡ marking limits h (mark limits h m (value f)) fs
unfolding marking
marking-cons limits h m f fs = refl

wrong_stays : (limits : Limits) (h : Hypergraph) (q : ℕ) (fs : Fields) → marking limits h (wrong q) fs ≡ wrong q
unfolding marking mark
wrong_stays limits h q [] = refl
wrong_stays limits h q (f ∷ fs) = wrong_stays limits h q fs

marking-nil : (limits : Limits) (h : Hypergraph) (m : Marking) → marking limits h m [] ≡ m
unfolding marking
marking-nil limits h m = refl

-- ---- the form, field by field
pub all_yes : (f : List ℕ) (fs : Fields) → is_number f ≡ true → all (f ∷ fs) is_number ≡ all fs is_number
unfolding all
all_yes f fs e = rw e

pub all-no : (f : List ℕ) (fs : Fields) → is_number f ≡ false → all (f ∷ fs) is_number ≡ false
unfolding all
all-no f fs e = rw e

-- what `count` tells of it
pub form-bad : (fs : Fields) → 0 ≡ counted 1 fs → all fs is_number ≡ false
unfolding counted
form-bad fs e = go (all fs is_number) e
  where
    go : (t : Bool) → 0 ≡ cond t (1 + length fs) 0 → t ≡ false
    go true z = absurd (omega arith)
    go false z = refl

pub form-good : (r : ℕ) (fs : Fields) → r ≡ counted 1 fs → (r ≡ 0 → ⊥) → all fs is_number ≡ true
unfolding counted
form-good r fs e n = go (all fs is_number) e
  where
    go : (t : Bool) → r ≡ cond t (1 + length fs) 0 → t ≡ true
    go true z = refl
    go false z = absurd (n z)

-- ---- marks after a test of the form
tested-on : (limits : Limits) (h : Hypergraph) (m : Marking) (f : List ℕ) (fs : Fields) → is_number f ≡ true → tested limits h m (f ∷ fs) ≡ tested limits h (mark limits h m (value f)) fs
unfolding tested
tested-on limits h m f fs e = ap (λ (t : Bool). cond t (marking limits h m (f ∷ fs)) (wrong 2)) (all_yes f fs e) ∙ ap (λ (x : Marking). cond (all fs is_number) x (wrong 2)) (marking-cons limits h m f fs)

tested-no : (limits : Limits) (h : Hypergraph) (m : Marking) (f : List ℕ) (fs : Fields) → is_number f ≡ false → tested limits h m (f ∷ fs) ≡ wrong 2
unfolding tested
tested-no limits h m f fs e = ap (λ (t : Bool). cond t (marking limits h m (f ∷ fs)) (wrong 2)) (all-no f fs e)

tested-nil : (limits : Limits) (h : Hypergraph) (m : Marking) → tested limits h m [] ≡ m
unfolding tested all
tested-nil limits h m = marking-nil limits h m

tested-wrong : (limits : Limits) (h : Hypergraph) (m : Marking) (q : ℕ) (fs : Fields) → marking limits h m fs ≡ wrong q → tested limits h m fs ≡ wrong (refusal_of q fs)
unfolding tested
tested-wrong limits h m q fs e = ap (λ (x : Marking). cond (all fs is_number) x (wrong 2)) e ∙ go (all fs is_number)
  where
    go : (t : Bool) → cond t (wrong q) (wrong 2) ≡ wrong (cond t q 2)
    go true = refl
    go false = refl

pub record OnMarks (s : List ℕ) (at end lots most j first : ℕ) (marks₀ marks stamps : List ℕ) (i m : ℕ) : Type 0 where
  pub low : 1 ≤ i
  pub high : i ≤ end
  pub lots-le : lots ≤ 1024
  pub st : Stamped most first m j marks stamps
  pub wide : most ≤ length marks
  pub len : length marks ≡ length marks₀
  pub slen : length stamps ≡ 1024
  pub keep : take first marks ≡ take first marks₀
  pub past : Past m marks₀ marks
  pub says : (limits : Limits) (h : Hypergraph) → limits.pin_limit ≡ most → vertices h ≡ lots → tested limits h (marked [] first) (parts 44 (slice at end s)) ≡ tested limits h (marked (slice first m marks) m) (parts 44 (slice i end s))

pub marks-start : (s : List ℕ) (at end lots most j first : ℕ) (marks stamps : List ℕ) → 1 ≤ at → at ≤ end → lots ≤ 1024 → first ≤ most → most ≤ length marks → length stamps ≡ 1024 → Fresh j stamps
    → OnMarks s at end lots most j first marks marks stamps at first
marks-start s at end lots most j first marks stamps low le ll fl wide slen fresh = record {
  low = low;
  high = le;
  lots-le = ll;
  st = stamped-start most j first marks stamps fl fresh;
  wide = wide;
  len = refl;
  slen = slen;
  keep = refl;
  past = λ x u. refl;
  says = λ limits h is e. ap (λ (l : List ℕ). tested limits h (marked l first) (parts 44 (slice at end s))) (sym (slice_empty first marks));
}

module _ (s : List ℕ) (at end lots most j first : ℕ) (marks₀ marks stamps : List ℕ) (i m : ℕ) (on : OnMarks s at end lots most j first marks₀ marks stamps i m) (within : end ≤ length s) where
  -- where `read_number` answered none
  pub marks-bad : NumberSeen s i end None → MarksRead (parts 44 (slice at end s)) lots most j first (Err BadlyWritten) marks₀ marks stamps
  marks-bad none = record {
    keep = on.keep;
    past = λ k y. absurd (let w : ◌≡◌ {A = ℕ} 0 1 = cc in omega arith);
    len = on.len;
    slen = on.slen;
    says = λ limits h is q.
        let f = field_end s i end in
        let found = field_found s i end on.high within in
        let p = parts_first s i end 44 f on.high within found in
        let m₁ = marked (slice first m marks) m in
        sym (on.says limits h is q ∙ ap (tested limits h m₁) p.1 ∙ tested-no limits h m₁ (slice i f s) p.0 (none f found));
    next = λ k y. absurd (let w : ◌≡◌ {A = ℕ} 0 1 = cc in omega arith);
  }

  -- where it answered v and e, and `put_pin` answered r
  module _ (e v : ℕ) (read : NumberRead s i end v e) (some : i < e) (r : ℕ) (marks' stamps' : List ℕ) (one : MarkOne v lots most j m r marks stamps marks' stamps') where
    kept : take first marks' ≡ take first marks₀
    kept = sym (take-take first m marks' on.st.f-le) ∙ ap (take first) one.keep ∙ take-take first m marks on.st.f-le ∙ on.keep

    -- the mark taken
    taken : (limits : Limits) (h : Hypergraph) → limits.pin_limit ≡ most → vertices h ≡ lots → mark limits h (marked (slice first m marks) m) (value (slice i e s)) ≡ mark_seen r first m marks'
    taken limits h is q = ap (mark limits h (marked (slice first m marks) m)) (sym (read.is some)) ∙ one.says limits h first is q on.st

    pub marks-stop : (a : Refusal) → r ≡ number_of a → (t : Refusal) → number_of t ≡ refusal_of (number_of a) (parts 44 (slice i end s)) → MarksRead (parts 44 (slice at end s)) lots most j first (Err t) marks₀ marks' stamps'
    marks-stop a is-a t told = record {
      keep = kept;
      past = λ k z. absurd (let w : ◌≡◌ {A = ℕ} 0 1 = cc in omega arith);
      len = one.len ∙ on.len;
      slen = one.slen ∙ on.slen;
      says = λ limits h is q.
          let p = parts_first s i end 44 e on.high within (read.ends.ends some) in
          let m₁ = marked (slice first m marks) m in
          let stops : marking limits h m₁ (parts 44 (slice i end s)) ≡ wrong r =
          ap (marking limits h m₁) p.1 ∙ marking-cons limits h m₁ (slice i e s) p.0
          ∙ ap (λ (x : Marking). marking limits h x p.0) (taken limits h is q ∙ ap (λ (b : Bool). cond b (marked (slice first (m + 1) marks') (m + 1)) (wrong r)) (ne_eqb r 0 (λ z. never-none a (sym is-a ∙ z))))
          ∙ wrong_stays limits h r p.0 in
          ap wrong (told ∙ ap (λ (x : ℕ). refusal_of x (parts 44 (slice i end s))) (sym is-a)) ∙ sym (on.says limits h is q ∙ tested-wrong limits h m₁ r (parts 44 (slice i end s)) stops);
      next = λ k z. absurd (let w : ◌≡◌ {A = ℕ} 0 1 = cc in omega arith);
    }

    module _ (good : r ≡ 0) where
      turn : (limits : Limits) (h : Hypergraph) → limits.pin_limit ≡ most → vertices h ≡ lots → (ps : Fields) → parts 44 (slice i end s) ≡ slice i e s ∷ ps
          → tested limits h (marked [] first) (parts 44 (slice at end s)) ≡ tested limits h (marked (slice first (m + 1) marks') (m + 1)) ps
      turn limits h is q ps p =
          on.says limits h is q
          ∙ ap (tested limits h (marked (slice first m marks) m)) p
          ∙ tested-on limits h (marked (slice first m marks) m) (slice i e s) ps (read.ends.is some)
          ∙ ap (λ (x : Marking). tested limits h x ps) (taken limits h is q ∙ ap (λ (b : Bool). cond b (marked (slice first (m + 1) marks') (m + 1)) (wrong r)) (eq-eqb r 0 good))

      pub marks-last : e ≡ end → MarksRead (parts 44 (slice at end s)) lots most j first (Ok (m + 1)) marks₀ marks' stamps'
      marks-last x = record {
        keep = kept;
        past = λ k z y u. let w : m + 1 ≡ k = cc in one.past y (omega arith) ∙ on.past y (omega arith);
        len = one.len ∙ on.len;
        slen = one.slen ∙ on.slen;
        says = λ limits h is q. sym (turn limits h is q [] (parts_last s i end 44 e on.high within (read.ends.ends some) x) ∙ tested-nil limits h (marked (slice first (m + 1) marks') (m + 1)));
        next = λ k z. let w : m + 1 ≡ k = cc in rw (← w) (one.next first good on.st);
      }

      pub marks-on : e < end → OnMarks s at end lots most j first marks₀ marks' stamps' (e + 1) (m + 1)
      marks-on x = record {
        low = omega arith;
        high = omega arith;
        lots-le = on.lots-le;
        st = one.next first good on.st;
        wide = omega (arith, one.len, on.wide);
        len = one.len ∙ on.len;
        slen = one.slen ∙ on.slen;
        keep = kept;
        past = λ y u. one.past y u ∙ on.past y (omega arith);
        says = λ limits h is q. turn limits h is q (parts 44 (slice (e + 1) end s)) (parts-on s i end 44 e on.high within (read.ends.ends some) x);
      }
