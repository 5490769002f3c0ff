-- Laws of a line's fields: which of them a cursor stands at, how many there are, what a line's form tells. Rests on Walk and Compare.
use Prim.Native.Nat.{ℕ, zero, suc, ◌+◌, ◌-◌, ◌≤◌, ◌<◌}
use Prim.Native.String.{String}
use mathlib.Core.Path.{◌≡◌, refl, ap, sym, ◌∙◌}
use mathlib.Core.List.{List, [], ◌∷◌}
use mathlib.Core.Bool.{Bool, true, false, ◌&&◌, cond}
use native.Mathlib.Decide.{ℕ_discrete}
use native.Mathlib.Omega.{arith}
use lib.ListN.{length, get_or, drop, set, length-set}
use lib.Seq.{slice, get_or-drop, get_or-set_same, get_or-set_other}
use lib.Dec.{eqb, ltb}
use borrow.Author.Tests.{ltb-true, ltb-false, eq-eqb, ne_eqb}
use Rattle.std.specs.Prelude.{None}
use Rattle.laws.specs.Fold.{all}
use Rattle.laws.specs.Choice.{and_left, and_right}
use Rattle.model.specs.Grammar.{Fields, same, parts, is_number, value, fields, bytes, is_line, is_line_of}
use Rattle.text.specs.Field.{first, FirstAt, NumberEnd, NumberRead, NumberSeen, FieldRead, Keeps, Kept, counted, form_of, Numbered}
use Rattle.text.proofs.Walk.{first-within, fields-on, fields-one, parts-some}

-- ---- the parts from a cursor on, where `find` answered e
module _ (s : List ℕ) (i end sep e : ℕ) (le : i ≤ end) (within : end ≤ length s) (found : FirstAt s i end sep e) where
  pub parts-on : e < end → parts sep (slice i end s) ≡ slice i e s ∷ parts sep (slice (e + 1) end s)
  parts-on x = fields-on s i end e sep le within found.is x

  pub parts_last : e ≡ end → parts sep (slice i end s) ≡ slice i e s ∷ []
  parts_last x = fields-one s i end e sep le within found.is (omega arith) ∙ ap (λ (n : ℕ). slice i n s ∷ []) (sym x)

  pub parts_first : (ps : Fields) × (parts sep (slice i end s) ≡ slice i e s ∷ ps)
  parts_first = go (ltb e end) refl
    where
      go : (t : Bool) → ltb e end ≡ t → (ps : Fields) × (parts sep (slice i end s) ≡ slice i e s ∷ ps)
      go true q = (parts sep (slice (e + 1) end s), parts-on (ltb-true e end q))
      go false q = ([], parts_last (omega (arith, ltb-false e end q, found.high)))

-- where the field from i on ends
abbrev pub field_end : List ℕ → ℕ → ℕ → ℕ
field_end s i end = i + first 44 (slice i end s)

pub field_found : (s : List ℕ) (i end : ℕ) → i ≤ end → end ≤ length s → FirstAt s i end 44 (field_end s i end)
field_found s i end le within = record { is = refl; low = omega arith; high = first-within s i end 44 le within }

-- ---- counting
pub counted-no : (k : ℕ) (f : List ℕ) (fs : Fields) → is_number f ≡ false → counted k (f ∷ fs) ≡ 0
unfolding counted all
counted-no k f fs e = rw e

pub counted-on : (k : ℕ) (f : List ℕ) (fs : Fields) → is_number f ≡ true → counted k (f ∷ fs) ≡ counted (k + 1) fs
unfolding counted all
counted-on k f fs e = let z : k + suc (length fs) ≡ k + 1 + length fs = omega arith in rw (e, z)

pub counted-end : (k : ℕ) → counted k [] ≡ k
unfolding counted all
counted-end k = omega arith

-- where no number stands
pub count_no : (s : List ℕ) (i end k : ℕ) → i ≤ end → end ≤ length s → NumberSeen s i end None → counted k (parts 44 (slice i end s)) ≡ 0
count_no s i end k le within none =
    let f = field_end s i end in
    let found = field_found s i end le within in
    let p = parts_first s i end 44 f le within found in
    ap (counted k) p.1 ∙ counted-no k (slice i f s) p.0 (none f found)

-- where `number_end` answered e
module _ (s : List ℕ) (i end e k : ℕ) (le : i ≤ end) (within : end ≤ length s) (told : NumberEnd s i end e) where
  module _ (some : i < e) where
    pub count-last : e ≡ end → counted k (parts 44 (slice i end s)) ≡ k + 1
    count-last x = ap (counted k) (parts_last s i end 44 e le within (told.ends some) x) ∙ counted-on k (slice i e s) [] (told.is some) ∙ counted-end (k + 1)

    pub count-on : e < end → counted k (parts 44 (slice i end s)) ≡ counted (k + 1) (parts 44 (slice (e + 1) end s))
    count-on x = ap (counted k) (parts-on s i end 44 e le within (told.ends some) x) ∙ counted-on k (slice i e s) (parts 44 (slice (e + 1) end s)) (told.is some)

-- ---- the values of the fields that are counted
pub kept-none : (fs : Fields) (k : ℕ) (values : List ℕ) → k ≤ 1 → length values ≡ 4 → Kept fs k values
kept-none fs k values h len = record { len = len; is = λ n l u. absurd (omega arith) }

pub keeps-past : (k v : ℕ) (values : List ℕ) → 4 < k → Keeps k v values values
keeps-past k v values h = record { len = refl; here = λ l. absurd (omega arith); before = λ n l. refl }

pub keeps-one : (k v : ℕ) (values : List ℕ) → 1 ≤ k → k ≤ 4 → length values ≡ 4 → Keeps k v values (set values (k - 1) v)
keeps-one k v values l u len = record {
  len = length-set values (k - 1) v;
  here = λ h. get_or-set_same values (k - 1) v 0 (omega arith);
  before = λ n h. get_or-set_other values (k - 1) n v 0 (λ e. omega arith);
}

-- the fields from i on are those from the k-th on
pub record OnNumbers (s : List ℕ) (at end k i : ℕ) (values : List ℕ) : Type 0 where
  pub low : 1 ≤ k
  pub below : k ≤ i
  pub high : i ≤ end
  pub counts : counted 1 (parts 44 (slice at end s)) ≡ counted k (parts 44 (slice i end s))
  pub rest : (n : ℕ) → get_or (parts 44 (slice at end s)) (k - 1 + n) [] ≡ get_or (parts 44 (slice i end s)) n []
  pub kept : Kept (parts 44 (slice at end s)) k values

pub numbers-start : (s : List ℕ) (at end : ℕ) (values : List ℕ) → 1 ≤ at → at ≤ end → length values ≡ 4 → OnNumbers s at end 1 at values
numbers-start s at end values l h len = record {
  low = omega arith;
  below = l;
  high = h;
  counts = refl;
  rest = λ n. let e : 1 - 1 + n ≡ n = omega arith in ap (λ (m : ℕ). get_or (parts 44 (slice at end s)) m []) e;
  kept = kept-none (parts 44 (slice at end s)) 1 values (omega arith) len;
}

-- where `read_number` answered none
pub numbers-bad : (s : List ℕ) (at end k i : ℕ) (values : List ℕ) → OnNumbers s at end k i values → end ≤ length s → NumberSeen s i end None → 0 ≡ counted 1 (parts 44 (slice at end s))
numbers-bad s at end k i values on within none = sym (on.counts ∙ count_no s i end k on.high within none)

-- where `read_number` answered v and e, and v is kept
module _ (s : List ℕ) (at end k i : ℕ) (values : List ℕ) (on : OnNumbers s at end k i values) (within : end ≤ length s) (v e : ℕ) (read : NumberRead s i end v e) where
  module _ (some : i < e) (values' : List ℕ) (keeps : Keeps k v values values') where
    here : v ≡ value (get_or (parts 44 (slice at end s)) (k - 1) [])
    here =
        let z : k - 1 + 0 ≡ k - 1 = omega arith in
        read.is some
        ∙ ap (λ (fs : Fields). value (get_or fs 0 [])) (sym (parts_first s i end 44 e on.high within (read.ends.ends some)).1)
        ∙ ap value (sym (on.rest 0) ∙ ap (λ (m : ℕ). get_or (parts 44 (slice at end s)) m []) z)

    pub numbers-kept : Kept (parts 44 (slice at end s)) (k + 1) values'
    numbers-kept = record { len = keeps.len ∙ on.kept.len; is = λ n l u. go n l u (ℕ_discrete n (k - 1)) }
      where
        go : (n : ℕ) → n + 1 < k + 1 → n < 4 → Dec (n ≡ k - 1) → get_or values' n 0 ≡ value (get_or (parts 44 (slice at end s)) n [])
        go n l u (yes z) = ap (λ (m : ℕ). get_or values' m 0) z ∙ keeps.here (omega (arith, on.low)) ∙ here ∙ ap (λ (m : ℕ). value (get_or (parts 44 (slice at end s)) m [])) (sym z)
        go n l u (no z) = keeps.before n (omega (arith, on.low)) ∙ on.kept.is n (omega (arith, on.low)) u

    pub numbers-last : e ≡ end → k + 1 ≡ counted 1 (parts 44 (slice at end s))
    numbers-last x = sym (on.counts ∙ count-last s i end e k on.high within read.ends some x)

    pub numbers_on : e < end → OnNumbers s at end (k + 1) (e + 1) values'
    numbers_on x = record {
      low = omega arith;
      below = omega (arith, on.below);
      high = omega arith;
      counts = on.counts ∙ count-on s i end e k on.high within read.ends some x;
      rest = λ n.
          let z : k + 1 - 1 + n ≡ k - 1 + suc n = omega (arith, on.low) in
          ap (λ (m : ℕ). get_or (parts 44 (slice at end s)) m []) z ∙ on.rest (suc n) ∙ ap (λ (fs : Fields). get_or fs (suc n) []) (parts-on s i end 44 e on.high within (read.ends.ends some) x);
      kept = numbers-kept;
    }

-- ---- the form of a line
module _ (s w : List ℕ) (at end a : ℕ) (le : at ≤ end) (within : end ≤ length s) (found : FirstAt s at end 44 a) where
  pub form-no : same (slice at a s) w ≡ false → 0 ≡ form_of w (fields (slice at end s))
  unfolding form_of fields
  form-no h = rw ((parts_first s at end 44 a le within found).1, h)

  pub form-one : same (slice at a s) w ≡ true → a ≡ end → 1 ≡ form_of w (fields (slice at end s))
  unfolding form_of fields
  form-one h x = rw (parts_last s at end 44 a le within found x, h) (sym (counted-end 1))

  pub form-on : same (slice at a s) w ≡ true → a < end → counted 1 (parts 44 (slice (a + 1) end s)) ≡ form_of w (fields (slice at end s))
  unfolding form_of fields
  form-on h x = rw (parts-on s at end 44 a le within found x, h)

  pub form-kept : a < end → (r : ℕ) (values : List ℕ) → Kept (parts 44 (slice (a + 1) end s)) r values → Kept (drop 1 (fields (slice at end s))) r values
  unfolding fields
  form-kept x r values k = rw (parts-on s at end 44 a le within found x) k

-- the value of a field, the first after the word being 1
pub kept_at : (fs : Fields) (r : ℕ) (values : List ℕ) → Kept (drop 1 fs) r values → (i : ℕ) → 1 ≤ i → i < r → i ≤ 4 → get_or values (i - 1) 0 ≡ value (get_or fs i [])
kept_at fs r values k i l h u = let e : 1 + (i - 1) ≡ i = omega arith in k.is (i - 1) (omega arith) (omega arith) ∙ ap value (get_or-drop 1 fs (i - 1) [] ∙ ap (λ (m : ℕ). get_or fs m []) e)

-- ---- the i-th field
numbered-tail : (f : List ℕ) (fs : Fields) (k : ℕ) → 0 < k → Numbered (f ∷ fs) k → Numbered fs (k - 1)
numbered-tail f fs zero l n = absurd (omega arith)
numbered-tail f fs (suc k) l n = let z : suc k - 1 ≡ k = omega arith in record { inside = omega (arith, n.inside); is = rw z n.is }

tail_at : (f : List ℕ) (fs : Fields) (k : ℕ) → 0 < k → get_or (f ∷ fs) k [] ≡ get_or fs (k - 1) []
tail_at f fs zero l = absurd (omega arith)
tail_at f fs (suc k) l = let z : suc k - 1 ≡ k = omega arith in rw z

pub record OnGet (s : List ℕ) (at end i a k : ℕ) : Type 0 where
  pub high : a ≤ end
  pub num : Numbered (parts 44 (slice a end s)) k
  pub says : get_or (parts 44 (slice at end s)) i [] ≡ get_or (parts 44 (slice a end s)) k []

pub get-start : (s : List ℕ) (at end i : ℕ) → at ≤ end → Numbered (fields (slice at end s)) i → OnGet s at end i at i
unfolding fields
get-start s at end i l n = record { high = l; num = n; says = refl }

module _ (s : List ℕ) (at end i a k e : ℕ) (on : OnGet s at end i a k) (within : end ≤ length s) (found : FirstAt s a end 44 e) where
  get-short : 0 < k → e ≡ end → ⊥
  get-short l x = let n = rw (parts_last s a end 44 e on.high within found x) at on.num.inside in omega arith

  pub get-inside : 0 < k → e < end
  get-inside l = go (ℕ_discrete e end)
    where
      go : Dec (e ≡ end) → e < end
      go (yes z) = absurd (get-short l z)
      go (no n) = omega (arith, found.high)

  pub get-on : 0 < k → OnGet s at end i (e + 1) (k - 1)
  get-on l =
      let x = get-inside l in
      let p = parts-on s a end 44 e on.high within found x in
      record {
        high = omega arith;
        num = numbered-tail (slice a e s) (parts 44 (slice (e + 1) end s)) k l (rw p at on.num);
        says = on.says ∙ ap (λ (fs : Fields). get_or fs k []) p ∙ tail_at (slice a e s) (parts 44 (slice (e + 1) end s)) k l;
      }

-- at the field, where `read_field` answered v and e
module _ (s : List ℕ) (at end i a k : ℕ) (on : OnGet s at end i a k) (within : end ≤ length s) (z : k ≡ 0) where
  pub get-here : Numbered (fields (slice a end s)) 0
  unfolding fields
  get-here = rw z at on.num

  pub get_value : (v e : ℕ) → FieldRead s a end v e → v ≡ value (get_or (fields (slice at end s)) i [])
  unfolding fields
  get_value v e read =
      read.is
      ∙ ap (λ (fs : Fields). value (get_or fs 0 [])) (sym (parts_first s a end 44 e on.high within read.ends).1)
      ∙ ap (λ (n : ℕ). value (get_or (parts 44 (slice a end s)) n [])) (sym z)
      ∙ ap value (sym on.says)

-- ---- what a form says of the line
pub record Formed (w : List ℕ) (fs : Fields) (n : ℕ) : Type 0 where
  pub word : same (get_or fs 0 []) w ≡ true
  pub nums : all (drop 1 fs) is_number ≡ true
  pub size : 1 + length (drop 1 fs) ≡ n

pub formed : (w : List ℕ) (fs : Fields) (n : ℕ) → form_of w fs ≡ suc n → Formed w fs (suc n)
unfolding form_of counted
formed w fs n e = go (same (get_or fs 0 []) w) refl (all (drop 1 fs) is_number) refl e
  where
    go : (a : Bool) → same (get_or fs 0 []) w ≡ a → (b : Bool) → all (drop 1 fs) is_number ≡ b → cond a (cond b (1 + length (drop 1 fs)) 0) 0 ≡ suc n → Formed w fs (suc n)
    go true p true q h = record { word = p; nums = q; size = h }
    go true p false q h = absurd (omega arith)
    go false p b q h = absurd (omega arith)

all-at : (fs : Fields) (i : ℕ) → all fs is_number ≡ true → i < length fs → is_number (get_or fs i []) ≡ true
unfolding all
all-at [] i e l = absurd (omega arith)
all-at (f ∷ fs) zero e l = and_left (is_number f) (all fs is_number) e
all-at (f ∷ fs) (suc i) e l = all-at fs i (and_right (is_number f) (all fs is_number) e) (omega arith)

pub numbered : (w : List ℕ) (fs : Fields) (n i : ℕ) → form_of w fs ≡ suc n → 1 ≤ i → i ≤ n → Numbered fs i
numbered w fs n i e l u = go fs i (formed w fs n e) l u
  where
    go : (fs : Fields) (i : ℕ) → Formed w fs (suc n) → 1 ≤ i → i ≤ n → Numbered fs i
    go [] i f l u = absurd (omega (arith, f.size))
    go (g ∷ gs) zero f l u = absurd (omega arith)
    go (g ∷ gs) (suc i) f l u = record { inside = omega (arith, f.size); is = all-at gs i f.nums (omega (arith, f.size)) }

pub fields-cons : (l : List ℕ) → (f : List ℕ) × (fs : Fields) × (fields l ≡ f ∷ fs)
unfolding fields
fields-cons l = go (parts 44 l) refl
  where
    go : (ps : Fields) → parts 44 l ≡ ps → (f : List ℕ) × (fs : Fields) × (parts 44 l ≡ f ∷ fs)
    go [] e = absurd (parts-some 44 l e)
    go (f ∷ fs) e = (f, fs, e)

line_of : (word : String) (n : ℕ) (f : List ℕ) (fs : Fields) → is_line_of word n (f ∷ fs) ≡ eqb (form_of (bytes word) (f ∷ fs)) (suc n)
unfolding is_line form_of counted
line_of word n f fs = go (same f (bytes word)) (all fs is_number)
  where
    go : (a b : Bool) → (a && b && eqb (suc (length fs)) (suc n)) ≡ eqb (cond a (cond b (1 + length fs) 0) 0) (suc n)
    go true true = let z : 1 + length fs ≡ suc (length fs) = omega arith in rw z
    go true false = sym (ne_eqb 0 (suc n) (λ e. omega arith))
    go false b = sym (ne_eqb 0 (suc n) (λ e. omega arith))

module _ (word : String) (w : List ℕ) (n r : ℕ) (l : List ℕ) (is : bytes word ≡ w) (form : r ≡ form_of w (fields l)) where
  of : is_line_of word n (fields l) ≡ eqb r (suc n)
  of = let c = fields-cons l in
      ap (is_line_of word n) c.2 ∙ line_of word n c.0 c.1 ∙ ap (λ (g : Fields). eqb (form_of (bytes word) g) (suc n)) (sym c.2) ∙ ap (λ (v : List ℕ). eqb (form_of v (fields l)) (suc n)) is ∙ ap (λ (m : ℕ). eqb m (suc n)) (sym form)

  pub line-yes : r ≡ suc n → is_line_of word n (fields l) ≡ true
  line-yes e = of ∙ eq-eqb r (suc n) e

  pub line-no : (r ≡ suc n → ⊥) → is_line_of word n (fields l) ≡ false
  line-no e = of ∙ ne_eqb r (suc n) e
