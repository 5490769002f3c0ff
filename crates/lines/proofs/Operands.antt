-- N's numbers, field by field, and a call line of any kind. Rests on Fields and on Late of specs.
use Prim.Native.Nat.{ℕ, suc, ◌+◌, ◌-◌, ◌*◌, ◌≤◌, ◌<◌}
use mathlib.Core.Path.{◌≡◌, refl, ap, sym, subst, ◌∙◌}
use mathlib.Core.List.{List, [], ◌∷◌, ◌++◌, append-nil}
use mathlib.Core.Bool.{Bool, true, false, ◌&&◌, cond}
use native.Mathlib.Omega.{arith}
use lib.ListN.{length, take, drop, set, length-set}
use lib.Seq.{slice, slice_empty, take-set-le, append_snoc}
use lib.Dec.{leb}
use borrow.Author.Tests.{le-leb, lt-leb}
use Rattle.laws.specs.Fold.{all}
use Rattle.model.specs.Sale.{call_n}
use Rattle.model.specs.Grammar.{Fields, bytes, same, parts, fields, at, is_line, is_number, value, values, nothing, asked, late_of, call_of}
use Rattle.model.specs.ListEntry.{is_entry}
use Rattle.text.specs.Field.{FirstAt, NumberRead, NumberSeen}
use Rattle.text.proofs.Walk.{slice_is}
use Rattle.text.proofs.Lines.{parts-on, parts_last, parts_first, field_end, field_found}
use Rattle.lines.specs.Line.{Named, is_late, late_asked}
use Rattle.lines.specs.Late.{Operands, operands_seen, OperandsRead, Late, late_seen, LateRead, CallRead}
use Rattle.lines.specs.declared.Short.{Short}
use Rattle.std.specs.Prelude.{Option, Some, None}
use Rattle.lines.proofs.Fields.{all_yes, all-no}
use Rattle.lines.proofs.Stamps.{slice-more}

values-nil : values [] ≡ []
unfolding values
values-nil = refl

values-cons : (f : List ℕ) (fs : Fields) → values (f ∷ fs) ≡ value f ∷ values fs
unfolding values
values-cons f fs = refl

all_nil : all {A = List ℕ} [] is_number ≡ true
unfolding all
all_nil = refl

-- the operands from `first` to m are the numbers before the cursor i
pub record OnOperands (s : List ℕ) (at end first : ℕ) (operands₀ operands : List ℕ) (i m : ℕ) : Type 0 where
  pub high : i ≤ end
  pub f-le : first ≤ m
  pub room : 2 * m < i
  pub wide : end ≤ 2 * length operands
  pub len : length operands ≡ length operands₀
  pub keep : take first operands ≡ take first operands₀
  pub form : all (parts 44 (slice at end s)) is_number ≡ all (parts 44 (slice i end s)) is_number
  pub is : values (parts 44 (slice at end s)) ≡ slice first m operands ++ values (parts 44 (slice i end s))
  pub count : first + length (parts 44 (slice at end s)) ≡ m + length (parts 44 (slice i end s))

pub operands-start : (s : List ℕ) (at end first : ℕ) (operands : List ℕ) → 2 * first < at → at ≤ end → end ≤ 2 * length operands → OnOperands s at end first operands operands at first
operands-start s at end first operands low le wide = record {
  high = le;
  f-le = omega arith;
  room = low;
  wide = wide;
  len = refl;
  keep = refl;
  form = refl;
  is = sym (ap (λ (l : List ℕ). l ++ values (parts 44 (slice at end s))) (slice_empty first operands));
  count = refl;
}

module _ (s : List ℕ) (at end first : ℕ) (operands₀ operands : List ℕ) (i m : ℕ) (on : OnOperands s at end first operands₀ operands i m) (within : end ≤ length s) where
  -- where `read_number` answered none
  pub operands-bad : NumberSeen s i end None → OperandsRead (parts 44 (slice at end s)) first end None operands₀ operands
  operands-bad none =
      let f = field_end s i end in
      let found = field_found s i end on.high within in
      let p = parts_first s i end 44 f on.high within found in
      record {
        keep = on.keep;
        len = on.len;
        says = on.form ∙ ap (λ (ps : Fields). all ps is_number) p.1 ∙ all-no (slice i f s) p.0 (none f found);
      }

  -- where it answered v and e
  module _ (e v : ℕ) (read : NumberRead s i end v e) (some : i < e) where
    abbrev put : List ℕ
    put = set operands m v

    inside : m < length operands
    inside = omega (arith, on.room, on.wide, read.ends.high)

    kept : take first put ≡ take first operands₀
    kept = take-set-le first operands m v on.f-le ∙ on.keep

    module _ (ps : Fields) (p : parts 44 (slice i end s) ≡ slice i e s ∷ ps) where
      form-turn : all (parts 44 (slice at end s)) is_number ≡ all ps is_number
      form-turn = on.form ∙ ap (λ (qs : Fields). all qs is_number) p ∙ all_yes (slice i e s) ps (read.ends.is some)

      is-turn : values (parts 44 (slice at end s)) ≡ slice first (m + 1) put ++ values ps
      is-turn =
          on.is
          ∙ ap (λ (qs : Fields). slice first m operands ++ values qs) p
          ∙ ap (λ (l : List ℕ). slice first m operands ++ l) (values-cons (slice i e s) ps)
          ∙ ap (λ (x : ℕ). slice first m operands ++ (x ∷ values ps)) (sym (read.is some))
          ∙ sym (append_snoc (slice first m operands) v (values ps))
          ∙ ap (λ (l : List ℕ). l ++ values ps) (sym (slice-more first m v operands on.f-le inside))

      count_turn : first + length (parts 44 (slice at end s)) ≡ m + 1 + length ps
      count_turn = omega (arith, on.count, ap length p)

    pub operands-last : e ≡ end → OperandsRead (parts 44 (slice at end s)) first end (Some (m + 1)) operands₀ put
    operands-last x =
        let p = parts_last s i end 44 e on.high within (read.ends.ends some) x in
        record {
          keep = kept;
          len = length-set operands m v ∙ on.len;
          says = record {
            form = form-turn [] p ∙ all_nil;
            is = sym (is-turn [] p ∙ ap (λ (l : List ℕ). slice first (m + 1) put ++ l) values-nil ∙ append-nil (slice first (m + 1) put));
            count = omega (arith, count_turn [] p);
            room = omega (arith, on.room);
          };
        }

    pub operands-on : e < end → OnOperands s at end first operands₀ put (e + 1) (m + 1)
    operands-on x =
        let p = parts-on s i end 44 e on.high within (read.ends.ends some) x in
        let ps = parts 44 (slice (e + 1) end s) in
        record {
          high = omega arith;
          f-le = omega (arith, on.f-le);
          room = omega (arith, on.room);
          wide = omega (arith, on.wide, length-set operands m v);
          len = length-set operands m v ∙ on.len;
          keep = kept;
          form = form-turn ps p;
          is = is-turn ps p;
          count = count_turn ps p;
        }

-- ---- an N line
late_of_lem : (f : List ℕ) (fs : Fields) (a b : Bool) → same f (bytes "N") ≡ a → all fs is_number ≡ b → is_late (f ∷ fs) ≡ (a && b && leb 3 (suc (length fs)))
unfolding is_line
late_of_lem f fs a b p q = rw (← p, ← q)

too_short : (f : List ℕ) (fs : Fields) → length fs < 2 → is_late (f ∷ fs) ≡ false
too_short f fs h = late_of_lem f fs _ _ refl refl ∙ ap (λ (t : Bool). same f (bytes "N") && all fs is_number && t) (lt-leb 3 (suc (length fs)) (omega arith)) ∙ go (same f (bytes "N")) (all fs is_number)
  where
    go : (a b : Bool) → (a && b && false) ≡ false
    go true true = refl
    go true false = refl
    go false b = refl

no_number : (f : List ℕ) (fs : Fields) → all fs is_number ≡ false → is_late (f ∷ fs) ≡ false
no_number f fs e = late_of_lem f fs _ false refl e ∙ go (same f (bytes "N"))
  where
    go : (t : Bool) → (t && false && leb 3 (suc (length fs))) ≡ false
    go true = refl
    go false = refl

late-values : (f : List ℕ) (fs : Fields) → 2 ≤ length fs → late_of (values fs) ≡ late_asked (f ∷ fs)
unfolding late_of values
late-values f [] h = absurd (omega arith)
late-values f (x ∷ []) h = absurd (omega arith)
late-values f (x ∷ (y ∷ fs)) h = refl

-- where `find` answered a, and `word` said whether N stands there
module _ (s : List ℕ) (at₀ end first a : ℕ) (operands : List ℕ) (le : at₀ ≤ end) (inside : end ≤ length s) (found : FirstAt s at₀ end 44 a) where
  abbrev fs : Fields
  fs = fields (slice at₀ end s)

  none : is_late fs ≡ false → LateRead fs first end None operands operands
  none e = record { keep = refl; len = refl; says = e }

  pub late-other : same (slice at₀ a s) (bytes "N") ≡ false → LateRead fs first end None operands operands
  unfolding fields
  late-other e = let p = parts_first s at₀ end 44 a le inside found in none (ap is_late p.1 ∙ late_of_lem (slice at₀ a s) p.0 false _ e refl)

  pub late-none : a ≡ end → LateRead fs first end None operands operands
  unfolding fields
  late-none z = none (ap is_late (parts_last s at₀ end 44 a le inside found z) ∙ too_short (slice at₀ a s) [] (omega arith))

  -- where `read_operands` answered r
  module _ (more : a < end) (r : Option ℕ) (operands' : List ℕ) (read : OperandsRead (parts 44 (slice (a + 1) end s)) first end r operands operands') where
    abbrev ps : Fields
    ps = parts 44 (slice (a + 1) end s)

    split : fs ≡ slice at₀ a s ∷ ps
    unfolding fields
    split = parts-on s at₀ end 44 a le inside found more

    pub late-bad : r ≡ None → LateRead fs first end None operands operands'
    late-bad is = record {
      keep = read.keep;
      len = read.len;
      says = ap is_late split ∙ no_number (slice at₀ a s) ps (subst (λ (o : Option ℕ). operands_seen ps first end o operands') is read.says);
    }

    module _ (m : ℕ) (is : r ≡ Some m) where
      got : Operands ps first end m operands'
      got = subst (λ (o : Option ℕ). operands_seen ps first end o operands') is read.says

      pub late-few : m < first + 2 → LateRead fs first end None operands operands'
      late-few u = record { keep = read.keep; len = read.len; says = ap is_late split ∙ too_short (slice at₀ a s) ps (omega (arith, got.count)) }

      pub late-here : same (slice at₀ a s) (bytes "N") ≡ true → first + 2 ≤ m → LateRead fs first end (Some m) operands operands'
      late-here word u =
          let two : 2 ≤ length ps = omega (arith, got.count) in
          let z : first + (m - first) ≡ m = omega arith in
          record {
            keep = read.keep;
            len = read.len;
            says = record {
              form = ap is_late split ∙ late_of_lem (slice at₀ a s) ps true true word got.form ∙ le-leb 3 (suc (length ps)) (omega arith);
              is = ap late_of (sym (slice_is first (m - first) operands') ∙ ap (λ (x : ℕ). slice first x operands') z ∙ got.is) ∙ late-values (slice at₀ a s) ps two ∙ ap late_asked (sym split);
              two = u;
              room = got.room;
            };
          }

-- ---- a call line
module _ (fs : Fields) (end used : ℕ) (operands : List ℕ) (room : 2 * used ≤ end) where
  pub called-short : (c : Short) → Named fs c.letter c.first c.second → CallRead fs end used (Some (record { letter = c.letter; first = c.first; second = c.second; used = used })) operands operands
  called-short c x = record { keep = refl; len = refl; says = record { call = x.call; is = x.is operands; says = x.says; entry = x.entry used; more = omega arith; room = room } }

  module _ (other : asked fs ≡ cond (is_late fs) (late_asked fs) nothing) (r : Option ℕ) (operands' : List ℕ) (read : LateRead fs used end r operands operands') where
    pub called-none : r ≡ None → CallRead fs end used None operands operands'
    called-none is = record {
      keep = read.keep;
      len = read.len;
      says = sym (other ∙ ap (λ (t : Bool). cond t (late_asked fs) nothing) (subst (λ (o : Option ℕ). late_seen fs used end o operands') is read.says));
    }

    module _ (m : ℕ) (is : r ≡ Some m) where
      pub late : Late fs used end m operands'
      late = subst (λ (o : Option ℕ). late_seen fs used end o operands') is read.says

      pub called-late : CallRead fs end used (Some (record { letter = 78; first = used; second = m - used; used = m })) operands operands'
      unfolding call_of is_entry
      called-late = record {
        keep = read.keep;
        len = read.len;
        says = record {
          call = call_n (at fs 1) (at fs 2) (values (drop 3 fs));
          is = late.is;
          says = other ∙ ap (λ (t : Bool). cond t (late_asked fs) nothing) late.form;
          entry = ap (λ (t : Bool). t && leb (used + (m - used)) m) (le-leb 2 (m - used) (omega (arith, late.two))) ∙ le-leb (used + (m - used)) m (omega (arith, late.two));
          more = omega (arith, late.two);
          room = late.room;
        };
      }
