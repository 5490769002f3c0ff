-- How many arrays of each table there are, and which sets are long: the tests one by one are model's `long_hall`. Rests on model's HallLent, on hall_file's Views and on
-- columns' Entry. Assumes nothing.
use Rattle.std.specs.Prelude.{ℕ, zero, suc, ◌+◌, ◌<◌, ◌≤◌, ◌≡◌, refl, Bool, true, false, ◌&&◌, List, [], ◌∷◌, leb, length, get_or}
use Rattle.std.proofs.Math.Decide.{ℕ_discrete}
use Rattle.std.proofs.Common.{arith, sym, ap, ◌∙◌, true≢false, le-leb, leb-true}
use Rattle.laws.specs.Choice.{and_left, and_right}
use Rattle.model.specs.Catalogue.{main_limits}
use Rattle.model.specs.Memory.{long_tables, long_memory}
use Rattle.model.specs.Lent.{memory}
use Rattle.model.specs.HallDemand.{long_hall}
use Rattle.lines.specs.Line.{Within}
use Rattle.sale.specs.Files.{Long}
use Rattle.columns.specs.Entry.{long-is}
use Rattle.hall_loader.specs.Sets.{set_of as loader_set}
use Rattle.model.specs.HallLent.{HallTables, tables_at, hall_memory}
use Rattle.hall_file.specs.Views.{loaded_in, Four}
use Rattle.hall_file.specs.Worked.{LongHall}

-- ---- four arrays of each table
unfoldable pub four_each : HallTables → Bool
four_each T = leb 4 (length T.weights) && (leb 4 (length T.blocks) && (leb 4 (length T.aboves) && (leb 4 (length T.fixed) && (leb 4 (length T.loaded_pins) && (leb 4 (length T.present_pins) && (leb 4 (length T.firsts) && (leb 4 (length T.loaded_sizes) && (leb 4 (length T.present_sizes) && (leb 4 (length T.counts) && (leb 4 (length T.gains) && (leb 4 (length T.index) && (leb 4 (length T.visited)))))))))))))

pub by_tests : (T : HallTables) {r : Bool} → r ≡ (leb 4 (length T.weights) && (leb 4 (length T.blocks) && (leb 4 (length T.aboves) && (leb 4 (length T.fixed) && (leb 4 (length T.loaded_pins) && (leb 4 (length T.present_pins) && (leb 4 (length T.firsts) && (leb 4 (length T.loaded_sizes) && (leb 4 (length T.present_sizes) && (leb 4 (length T.counts) && (leb 4 (length T.gains) && (leb 4 (length T.index) && (leb 4 (length T.visited)))))))))))))) → r ≡ four_each T
unfolding four_each
by_tests T e = e

both : {a b : Bool} → a ≡ true → b ≡ true → (a && b) ≡ true
both {a} {b} p q = ap (λ (x : Bool). x && b) p ∙ q

pub each-four : (T : HallTables) → four_each T ≡ true → Four T
unfolding four_each
each-four T q0 =
    let q1 = and_right (leb 4 (length T.weights)) _ q0 in
    let q2 = and_right (leb 4 (length T.blocks)) _ q1 in
    let q3 = and_right (leb 4 (length T.aboves)) _ q2 in
    let q4 = and_right (leb 4 (length T.fixed)) _ q3 in
    let q5 = and_right (leb 4 (length T.loaded_pins)) _ q4 in
    let q6 = and_right (leb 4 (length T.present_pins)) _ q5 in
    let q7 = and_right (leb 4 (length T.firsts)) _ q6 in
    let q8 = and_right (leb 4 (length T.loaded_sizes)) _ q7 in
    let q9 = and_right (leb 4 (length T.present_sizes)) _ q8 in
    let q10 = and_right (leb 4 (length T.counts)) _ q9 in
    let q11 = and_right (leb 4 (length T.gains)) _ q10 in
    let q12 = and_right (leb 4 (length T.index)) _ q11 in
    record { weights-four = leb-true 4 (length T.weights) (and_left (leb 4 (length T.weights)) _ q0); blocks-four = leb-true 4 (length T.blocks) (and_left (leb 4 (length T.blocks)) _ q1); aboves-four = leb-true 4 (length T.aboves) (and_left (leb 4 (length T.aboves)) _ q2); fixed-four = leb-true 4 (length T.fixed) (and_left (leb 4 (length T.fixed)) _ q3); loaded_pins-four = leb-true 4 (length T.loaded_pins) (and_left (leb 4 (length T.loaded_pins)) _ q4); present_pins-four = leb-true 4 (length T.present_pins) (and_left (leb 4 (length T.present_pins)) _ q5); firsts-four = leb-true 4 (length T.firsts) (and_left (leb 4 (length T.firsts)) _ q6); loaded_sizes-four = leb-true 4 (length T.loaded_sizes) (and_left (leb 4 (length T.loaded_sizes)) _ q7); present_sizes-four = leb-true 4 (length T.present_sizes) (and_left (leb 4 (length T.present_sizes)) _ q8); counts-four = leb-true 4 (length T.counts) (and_left (leb 4 (length T.counts)) _ q9); gains-four = leb-true 4 (length T.gains) (and_left (leb 4 (length T.gains)) _ q10); index-four = leb-true 4 (length T.index) (and_left (leb 4 (length T.index)) _ q11); visited-four = leb-true 4 (length T.visited) q12 }

pub four-each : (T : HallTables) → Four T → four_each T ≡ true
unfolding four_each
four-each T f = both (le-leb 4 (length T.weights) f.weights-four) (both (le-leb 4 (length T.blocks) f.blocks-four) (both (le-leb 4 (length T.aboves) f.aboves-four) (both (le-leb 4 (length T.fixed) f.fixed-four) (both (le-leb 4 (length T.loaded_pins) f.loaded_pins-four) (both (le-leb 4 (length T.present_pins) f.present_pins-four) (both (le-leb 4 (length T.firsts) f.firsts-four) (both (le-leb 4 (length T.loaded_sizes) f.loaded_sizes-four) (both (le-leb 4 (length T.present_sizes) f.present_sizes-four) (both (le-leb 4 (length T.counts) f.counts-four) (both (le-leb 4 (length T.gains) f.gains-four) (both (le-leb 4 (length T.index) f.index-four) (le-leb 4 (length T.visited) f.visited-four))))))))))))

-- ---- the sets
-- the output and the set at place c are long
abbrev pub set_long : List ℕ → HallTables → ℕ → Bool
set_long out T c = long_memory main_limits (memory out (tables_at T c))

-- a list whose fourth array has an entry has four
at_least : {A : Type 0} (l : List (List A)) (n : ℕ) → suc n ≤ length (get_or l 3 []) → 4 ≤ length l
at_least [] n h = absurd (omega arith)
at_least (a ∷ []) n h = absurd (omega arith)
at_least (a ∷ (b ∷ [])) n h = absurd (omega arith)
at_least (a ∷ (b ∷ (c ∷ []))) n h = absurd (omega arith)
at_least (a ∷ (b ∷ (c ∷ (d ∷ l)))) n h = omega arith

main-within : Within main_limits
main-within = record { lots-few = omega arith; sessions-few = omega arith; few = record { nets-few = omega arith; pins-few = omega arith } }

-- a long set has its lengths
pub set_long_lem : (out : List ℕ) (T : HallTables) (c : ℕ) → set_long out T c ≡ true → Long main_limits out (loader_set c (loaded_in T [] [])).lists (get_or T.counts c []) (get_or T.gains c []) (get_or T.index c []) (get_or T.visited c [])
set_long_lem out T c q = long-is main_limits out (loader_set c (loaded_in T [] [])).lists (get_or T.counts c []) (get_or T.gains c []) (get_or T.index c []) (get_or T.visited c []) main-within (sym q) refl

-- where the fourth set is long there are four arrays of each table
pub four-of : (out : List ℕ) (T : HallTables) → set_long out T 3 ≡ true → Four T
four-of out T q = let l = set_long_lem out T 3 q in record { weights-four = at_least T.weights 0 (omega (arith, l.lists-long.weights)); blocks-four = at_least T.blocks 0 (omega (arith, l.lists-long.blocks)); aboves-four = at_least T.aboves 0 (omega (arith, l.lists-long.aboves)); fixed-four = at_least T.fixed 0 (omega (arith, l.lists-long.fixed)); loaded_pins-four = at_least T.loaded_pins 0 (omega (arith, l.lists-long.loaded_pins)); present_pins-four = at_least T.present_pins 0 (omega (arith, l.lists-long.present_pins)); firsts-four = at_least T.firsts 0 (omega (arith, l.lists-long.firsts)); loaded_sizes-four = at_least T.loaded_sizes 0 (omega (arith, l.lists-long.loaded_sizes)); present_sizes-four = at_least T.present_sizes 0 (omega (arith, l.lists-long.present_sizes)); counts-four = at_least T.counts 0 (omega (arith, l.counts-long)); gains-four = at_least T.gains 0 (omega (arith, l.gains-long)); index-four = at_least T.index 0 (omega (arith, l.index-long)); visited-four = at_least T.visited 0 (omega (arith, l.visited-long)) }

-- ---- all four
-- model's test, set by set
by-set : (o a b c d : Bool) → ((o && a) && ((o && b) && ((o && c) && (o && d)))) ≡ (o && a && b && c && d)
by-set false a b c d = refl
by-set true false b c d = refl
by-set true true false c d = refl
by-set true true true false d = refl
by-set true true true true d = refl

pub hall-is : (out : List ℕ) (T : HallTables) → (set_long out T 0 && (set_long out T 1 && (set_long out T 2 && set_long out T 3))) ≡ long_hall (hall_memory out T)
unfolding long_hall long_memory
hall-is out T = by-set (leb 60000 (length out)) (long_tables main_limits (tables_at T 0)) (long_tables main_limits (tables_at T 1)) (long_tables main_limits (tables_at T 2)) (long_tables main_limits (tables_at T 3))

-- ---- the loop over the sets: the first c are long
abbrev pub LongTo : List ℕ → HallTables → ℕ → Type 0
LongTo out T c = (d : ℕ) → d < c → set_long out T d ≡ true

pub long-more : (out : List ℕ) (T : HallTables) (c : ℕ) → LongTo out T c → set_long out T c ≡ true → LongTo out T (c + 1)
long-more out T c l q d u = go (ℕ_discrete d c)
  where
    go : Dec (d ≡ c) → set_long out T d ≡ true
    go (yes e) = ap (set_long out T) e ∙ q
    go (no n) = l d (omega (arith, u, n))

pub all-long : (out : List ℕ) (T : HallTables) → LongTo out T 4 → true ≡ long_hall (hall_memory out T)
all-long out T l = sym (both (l 0 (omega arith)) (both (l 1 (omega arith)) (both (l 2 (omega arith)) (l 3 (omega arith))))) ∙ hall-is out T

-- one that is short
long-all : (out : List ℕ) (T : HallTables) → long_hall (hall_memory out T) ≡ true → LongTo out T 4
long-all out T q = go
  where
    all : (set_long out T 0 && (set_long out T 1 && (set_long out T 2 && set_long out T 3))) ≡ true
    all = hall-is out T ∙ q

    last : (set_long out T 1 && (set_long out T 2 && set_long out T 3)) ≡ true
    last = and_right (set_long out T 0) _ all

    go : LongTo out T 4
    go zero u = and_left (set_long out T 0) _ all
    go (suc zero) u = and_left (set_long out T 1) _ last
    go (suc (suc zero)) u = and_left (set_long out T 2) _ (and_right (set_long out T 1) _ last)
    go (suc (suc (suc zero))) u = and_right (set_long out T 2) _ (and_right (set_long out T 1) _ last)
    go (suc (suc (suc (suc d)))) u = absurd (omega arith)

pub one-short : (out : List ℕ) (T : HallTables) (c : ℕ) → c < 4 → set_long out T c ≡ false → false ≡ long_hall (hall_memory out T)
one-short out T c u q = go (long_hall (hall_memory out T)) refl
  where
    go : (b : Bool) → long_hall (hall_memory out T) ≡ b → false ≡ b
    go false e = refl
    go true e = absurd (true≢false (sym (long-all out T e c u) ∙ q))

pub too_few : (out : List ℕ) (T : HallTables) → four_each T ≡ false → false ≡ long_hall (hall_memory out T)
too_few out T q = go (long_hall (hall_memory out T)) refl
  where
    go : (b : Bool) → long_hall (hall_memory out T) ≡ b → false ≡ b
    go false e = refl
    go true e = absurd (true≢false (sym (four-each T (four-of out T (long-all out T e 3 (omega arith)))) ∙ q))

-- long memory has its lengths
pub long-hall : (out : List ℕ) (T : HallTables) → long_hall (hall_memory out T) ≡ true → LongHall out T
long-hall out T q = let l = long-all out T q in record {
  four = four-of out T (l 3 (omega arith));
  long = λ c u. set_long_lem out T c (l c u);
  spacious = (set_long_lem out T 0 (l 0 (omega arith))).spacious;
}
