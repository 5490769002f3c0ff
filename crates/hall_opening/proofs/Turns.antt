-- The loop over a hall's sets: none opened yet, one more, all of them. Rests on Opening. Assumes nothing.
use Prim.Native.Nat.{ℕ, ◌+◌, ◌<◌, ◌≤◌}
use native.Mathlib.Decide.{ℕ_discrete}
use native.Mathlib.Omega.{arith}
use mathlib.Core.Path.{◌≡◌, refl, sym, ◌∙◌, subst}
use mathlib.Core.List.{List}
use lib.ListN.{length, get_or, set, length-set}
use lib.Seq.{get_or-set_same, get_or-set_other}
use Rattle.loader.specs.declared.Sizes.{Sizes}
use Rattle.call_list.specs.declared.course.Course.{Course}
use Rattle.hall_opening.specs.Filled.{Filled, Fills, Read, Reads, filled_of, read_of, put_filled, Alike, own_put, other-put, alike, alike-put, whole-alike}
use Rattle.hall_opening.specs.Opening.{CanOpen, Opens, CanOpenSet, OpensSet, no_sizes, no_course, CanOpenSets, OpensSets}

-- the first c sets are opened, the others are as they were
pub record OpenTo (count c : ℕ) (sizes : List Sizes) (F₀ F : Fills) (G : Reads) (courses : List Course) : Type 0 where
  pub begun : CanOpenSets count sizes F₀ G
  pub c-le : c ≤ count
  pub same : Alike F₀ F
  pub courses-four : length courses ≡ 4
  pub done : (d : ℕ) → d < c → Opens (get_or sizes d no_sizes) (filled_of d F₀) (filled_of d F) (read_of d G) (get_or courses d no_course)
  pub ahead : (d : ℕ) → c ≤ d → filled_of d F ≡ filled_of d F₀

pub open_none : {count : ℕ} {sizes : List Sizes} {F : Fills} {G : Reads} {courses : List Course} → CanOpenSets count sizes F G → length courses ≡ 4 → OpenTo count 0 sizes F F G courses
open_none {F = F} b l = record { begun = b; c-le = omega arith; same = alike F; courses-four = l; done = λ d q. absurd (omega arith); ahead = λ d q. refl }

pub can-next : {count c : ℕ} {sizes : List Sizes} {F₀ F : Fills} {G : Reads} {courses : List Course} → OpenTo count c sizes F₀ F G courses → c < count → CanOpenSet c (get_or sizes c no_sizes) F G
can-next {c = c} {sizes} {F₀} {F} {G} o l = record {
  whole = whole-alike F₀ F o.begun.whole o.same;
  known = omega (arith, o.begun.few);
  can = subst (λ (Y : Filled). CanOpen (get_or sizes c no_sizes) Y (read_of c G)) (sym (o.ahead c (omega arith))) (o.begun.can c l);
}

opens_as : {z : Sizes} {X X' Y Y' : Filled} {G : Read} {a b : Course} → X ≡ Y → X' ≡ Y' → a ≡ b → Opens z X X' G a → Opens z Y Y' G b
opens_as {z} {X} {X'} {Y} {Y'} {G} {a} {b} e e' q o =
    subst (λ (k : Course). Opens z Y Y' G k) q (subst (λ (W : Filled). Opens z Y W G a) e' (subst (λ (W : Filled). Opens z W X' G a) e o))

put-more : {count c : ℕ} {sizes : List Sizes} {F₀ F : Fills} {G : Reads} {courses : List Course} → OpenTo count c sizes F₀ F G courses → c < count → (Y : Filled) (course : Course)
    → Opens (get_or sizes c no_sizes) (filled_of c F) Y (read_of c G) course → OpenTo count (c + 1) sizes F₀ (put_filled c Y F) G (set courses c course)
put-more {count} {c} {sizes} {F₀} {F} {G} {courses} o l Y course p = record {
  begun = o.begun;
  c-le = omega arith;
  same = alike-put c Y F₀ F o.same;
  courses-four = length-set courses c course ∙ o.courses-four;
  done = λ d q. go d q (ℕ_discrete d c);
  ahead = λ d q. other-put c d Y F (λ e. omega (arith, e)) ∙ o.ahead d (omega arith);
}
  where
    known : c < 4
    known = omega (arith, o.begun.few)

    go : (d : ℕ) → d < c + 1 → Dec (d ≡ c) → Opens (get_or sizes d no_sizes) (filled_of d F₀) (filled_of d (put_filled c Y F)) (read_of d G) (get_or (set courses c course) d no_course)
    go d q (yes e) = rw e (opens_as (o.ahead c (omega arith)) (sym (own_put c Y F known (whole-alike F₀ F o.begun.whole o.same))) (sym (get_or-set_same courses c course no_course (omega (arith, o.courses-four)))) p)
    go d q (no n) = opens_as refl (sym (other-put c d Y F n)) (sym (get_or-set_other courses c d course no_course n)) (o.done d (omega (arith, n)))

pub open_more : {count c : ℕ} {sizes : List Sizes} {F₀ F F' : Fills} {G : Reads} {courses : List Course} {course : Course} → OpenTo count c sizes F₀ F G courses → c < count → OpensSet c (get_or sizes c no_sizes) F F' G course
    → OpenTo count (c + 1) sizes F₀ F' G (set courses c course)
open_more {count} {c} {sizes} {F₀} {F} {F'} {G} {courses} {course} o l p =
    subst (λ (H : Fills). OpenTo count (c + 1) sizes F₀ H G (set courses c course)) (sym p.put) (put-more o l p.after course p.opens)

pub open-all : {count c : ℕ} {sizes : List Sizes} {F₀ F : Fills} {G : Reads} {courses : List Course} → OpenTo count c sizes F₀ F G courses → count ≤ c → OpensSets count sizes F₀ F G courses
open-all o l = record { courses-four = o.courses-four; opens = λ d q. o.done d (omega arith); kept = λ d q. o.ahead d (omega (arith, o.c-le)) }
