-- The numbers of a line one by one, and an edge's line: its weight, its vertices checked and written. Rests on Words and Stamps.
use Prim.Native.Nat.{ℕ, zero, suc, ◌+◌, ◌*◌, ◌≤◌, ◌<◌}
use native.Mathlib.Nat.{zero-add}
use native.Mathlib.Omega.{arith}
use mathlib.Core.Path.{◌≡◌, refl, ap, ap₂, sym, ◌∙◌, subst}
use mathlib.Core.Bool.{Bool, true, false, not, ◌&&◌, cond, true≢false, and-true}
use mathlib.Core.List.{List, [], ◌∷◌, ◌++◌, map, append_assoc}
use borrow.Author.Tests.{leb-true, le-leb, lt-leb}
use lib.Dec.{eqb, leb}
use lib.ListN.{length, get_or, set, length-append, length-map}
use lib.Seq.{slice}
use Rattle.std.specs.Prelude.{Option, MatchOption, is_some}
use Rattle.std.proofs.lemmas.Bool.{some_since}
use Rattle.laws.specs.Fold.{any, all}
use Rattle.model.specs.Grammar.{Fields, is_number, value, at, within, bytes}
use Rattle.model.specs.Report.{digits, tail, row}
use Rattle.text.specs.Field.{FirstAt, counted}
use Rattle.model.specs.CatalogueText.{numbers}
use Rattle.fields.specs.Wrote.{Wrote, Remains}
use Rattle.fields.proofs.Laws.{remains-all, remains-more, remains-none, remains-room, wrote_one}
use Rattle.model.specs.Hmetis.{words, numbers_in, Edge, is_edge, edge_from, edge_of}
use Rattle.model.specs.Convert.{named, is_carried}
use Rattle.spaced.specs.Row.{Skipped, Numbers, weight_in, pin_words, NoWord, WordRead, LeadRead}
use Rattle.spaced.specs.Pins.{Fresh, Stamped, StampOne, commas, NoPins, PinsChecked, edge_row, EdgeChecked}
use Rattle.spaced.proofs.Words.{words_last, words-on, words-first, word_number, words-rest, numbers-counted, count-last, count-on, word_count}
use Rattle.spaced.proofs.Stamps.{stamped-none}

-- ---- how many numbers a line has
pub numbers-are : (l : List ℕ) (m : ℕ) → 1 ≤ m → leb m (numbers_in l) ≡ true → (all (words l) is_number ≡ true) × (m ≤ length (words l))
unfolding numbers_in
numbers-are l m some e = go (all (words l) is_number) refl (leb-true m (numbers_in l) e)
  where
    go : (b : Bool) → all (words l) is_number ≡ b → m ≤ cond b (length (words l)) 0 → (b ≡ true) × (m ≤ length (words l))
    go true q h = (refl, h)
    go false q h = absurd (omega arith)

numbers-length : (l : List ℕ) → 1 ≤ numbers_in l → numbers_in l ≡ length (words l)
unfolding numbers_in
numbers-length l some = go (all (words l) is_number) refl some
  where
    go : (b : Bool) → all (words l) is_number ≡ b → 1 ≤ cond b (length (words l)) 0 → cond b (length (words l)) 0 ≡ length (words l)
    go true q h = refl
    go false q h = absurd (omega arith)

-- ---- the lead of an edge's line
plain_form : (l : List ℕ) → is_edge false l ≡ leb 1 (numbers_in l)
unfolding is_edge
plain_form l = refl

two-bad : (l : List ℕ) → numbers_in l ≤ 1 → is_edge true l ≡ false
unfolding is_edge
two-bad l few = lt-leb 2 (numbers_in l) (omega arith)

-- two numbers or more: one, and one or more behind it
two-form : (ws : Fields) → leb 2 (counted 1 ws) ≡ leb 1 (counted 0 ws)
unfolding counted
two-form ws = go (all ws is_number)
  where
    fewer : (n : ℕ) → leb 2 (1 + n) ≡ leb 1 (0 + n)
    fewer zero = refl
    fewer (suc n) = le-leb 2 (1 + suc n) (omega arith) ∙ sym (le-leb 1 (0 + suc n) (omega arith))

    go : (b : Bool) → leb 2 (cond b (1 + length ws) 0) ≡ leb 1 (cond b (0 + length ws) 0)
    go true = fewer (length ws)
    go false = refl

behind-form : (l : List ℕ) (ws : Fields) → counted 0 (words l) ≡ counted 1 ws → is_edge true l ≡ leb 1 (counted 0 ws)
unfolding is_edge
behind-form l ws e = ap (leb 2) (numbers-counted l ∙ e) ∙ two-form ws

pub lead_plain : (s : List ℕ) (at end : ℕ) → at ≤ end → (weighted : Bool) → weighted ≡ false → LeadRead s at end weighted 1 at
lead_plain s at end le true q = absurd (true≢false q)
lead_plain s at end le false q = record {
  low = omega arith;
  high = le;
  form = plain_form (slice at end s);
  weight_is = refl;
  pins-are = refl;
}

module _ (s : List ℕ) (at end : ℕ) (le : at ≤ end) (within : end ≤ length s) (weighted : Bool) (q : weighted ≡ true) where
  lead-few : numbers_in (slice at end s) ≤ 1 → is_edge weighted (slice at end s) ≡ false
  lead-few few = ap (λ (b : Bool). is_edge b (slice at end s)) q ∙ two-bad (slice at end s) few

  pub lead-bad : NoWord s at end → is_edge weighted (slice at end s) ≡ false
  lead-bad word = lead-few (omega (arith, numbers-counted (slice at end s), word_count s at end le within word 0))

  module _ (v e : ℕ) (word : WordRead s at end v e) where
    pub lead-short : e ≡ end → is_edge weighted (slice at end s) ≡ false
    lead-short z = lead-few (omega (arith, numbers-counted (slice at end s), count-last s at end e 0 le within word.ends word.is z))

    pub lead-behind : (f : ℕ) → e < end → Skipped s (e + 1) end f → LeadRead s at end weighted v f
    lead-behind f lt skipped = go weighted q
      where
        on : words (slice at end s) ≡ slice at e s ∷ words (slice f end s)
        on = words-on s at end e le within word.ends f lt skipped

        count : counted 0 (words (slice at end s)) ≡ counted 1 (words (slice f end s))
        count = count-on s at end e 0 le within word.ends word.is f lt skipped

        go : (b : Bool) → b ≡ true → LeadRead s at end b v f
        go false z = absurd (true≢false (sym z))
        go true z = record {
          low = omega (arith, word.low, skipped.low);
          high = skipped.high;
          form = behind-form (slice at end s) (words (slice f end s)) count ∙ ap (leb 1) (sym (numbers-counted (slice f end s)));
          weight_is = word.value-is ∙ sym (ap (weight_in true) on);
          pins-are = sym (ap (pin_words true) on);
        }

-- ---- the i-th number
pub record OnGet (s : List ℕ) (at end n i k : ℕ) : Type 0 where
  pub high : i ≤ end
  pub num : Numbers (slice i end s) k
  pub says : get_or (words (slice at end s)) n [] ≡ get_or (words (slice i end s)) k []

later-at : (f : List ℕ) (fs : Fields) (k m : ℕ) → k ≡ m + 1 → get_or (f ∷ fs) k [] ≡ get_or fs m []
later-at f fs zero m e = absurd (omega arith)
later-at f fs (suc k) m e = ap (λ (x : ℕ). get_or fs x []) (omega arith)

pub get-start : (s : List ℕ) (at end n k : ℕ) → at ≤ end → Numbers (slice at end s) n → n ≡ k → OnGet s at end n at k
get-start s at end n k le num q = subst (λ (x : ℕ). OnGet s at end n at x) q (record { high = le; num = num; says = refl })

module _ (s : List ℕ) (at end n i k e : ℕ) (on : OnGet s at end n i k) (within : end ≤ length s) (found : FirstAt s i end 32 e) where
  pub get-short : 0 < k → e ≡ end → ⊥
  get-short l x = omega (arith, on.num.inside, ap length (words_last s i end e on.high within found x))

  pub get-on : (j m : ℕ) → k ≡ m + 1 → e < end → Skipped s (e + 1) end j → OnGet s at end n j m
  get-on j m q lt skipped =
      let w = words-on s i end e on.high within found j lt skipped in
      record {
        high = skipped.high;
        num = record { inside = omega (arith, on.num.inside, ap length w); are = words-rest s i end e on.high within found on.num.are j lt skipped };
        says = on.says ∙ ap (λ (ws : Fields). get_or ws k []) w ∙ later-at (slice i e s) (words (slice j end s)) k m q;
      }

  pub get-number : is_number (slice i e s) ≡ true
  get-number = word_number s i end e on.high within found on.num.are

  pub get-here : k ≡ 0 → value (slice i e s) ≡ value (get_or (words (slice at end s)) n [])
  get-here z =
      let w = words-first s i end e on.high within found in
      sym (ap value (on.says ∙ ap (λ (m : ℕ). get_or (words (slice i end s)) m []) z ∙ ap (λ (ws : Fields). get_or ws 0 []) w.1))

-- ---- the numbers of the words from a cursor on
abbrev pub values_at : List ℕ → ℕ → ℕ → List ℕ
values_at s i end = map value (words (slice i end s))

module _ (s : List ℕ) (i end e v : ℕ) (le : i ≤ end) (within : end ≤ length s) (found : FirstAt s i end 32 e) (is : v ≡ value (slice i e s)) where
  values-first : (vs : List ℕ) × (values_at s i end ≡ v ∷ vs)
  values-first = let w = words-first s i end e le within found in (map value w.0, ap (map value) w.1 ∙ ap (λ (x : ℕ). x ∷ map value w.0) (sym is))

  pub values-last : e ≡ end → values_at s i end ≡ v ∷ []
  values-last q = ap (map value) (words_last s i end e le within found q) ∙ ap (λ (x : ℕ). x ∷ []) (sym is)

  pub values-on : (j : ℕ) → e < end → Skipped s (e + 1) end j → values_at s i end ≡ v ∷ values_at s j end
  values-on j lt skipped = ap (map value) (words-on s i end e le within found j lt skipped) ∙ ap (λ (x : ℕ). x ∷ values_at s j end) (sym is)

-- ---- checking them
named-cons : (n : ℕ) (seen : List ℕ) (v : ℕ) (vs : List ℕ) (r : Bool) → r ≡ (within 1 n v && not (any seen (λ x. eqb x v))) → named n seen (v ∷ vs) ≡ (r && named n (seen ++ (v ∷ [])) vs)
unfolding named
named-cons n seen v vs r e = ap (λ (b : Bool). b && named n (seen ++ (v ∷ [])) vs) (sym e)

named-nil : (n : ℕ) (seen : List ℕ) → named n seen [] ≡ true
unfolding named
named-nil n seen = refl

commas-cons : (v : ℕ) (vs : List ℕ) → length (commas (v ∷ vs)) ≡ suc (length (digits v)) + length (commas vs)
unfolding commas
commas-cons v vs = length-append (44 ∷ digits v) (commas vs)

commas-nil : length (commas []) ≡ 0
unfolding commas
commas-nil = refl

and-three : (a b c : Bool) → (a && (b && c)) ≡ ((a && b) && c)
and-three true b c = refl
and-three false b c = refl

pub record OnPins (s : List ℕ) (at end n j : ℕ) (stamps : List ℕ) (i count : ℕ) (good : Bool) (size : ℕ) : Type 0 where
  pub high : i ≤ end
  pub len : length stamps ≡ 1024
  pub few : at + count ≤ i
  pub small : size ≤ 11 * count
  pub seen : List ℕ
  pub stamped : Stamped n seen j stamps
  pub count-is : numbers_in (slice at end s) ≡ counted count (words (slice i end s))
  pub says : named n [] (values_at s at end) ≡ (good && named n seen (values_at s i end))
  pub size_is : size + length (commas (values_at s i end)) ≡ length (commas (values_at s at end))

pub pins-start : (s : List ℕ) (at end n j : ℕ) (stamps : List ℕ) → at ≤ end → length stamps ≡ 1024 → Fresh j stamps → OnPins s at end n j stamps at 0 true 0
pins-start s at end n j stamps le len fresh = record {
  high = le;
  len = len;
  few = omega arith;
  small = omega arith;
  seen = [];
  stamped = stamped-none n j stamps fresh;
  count-is = numbers-counted (slice at end s);
  says = refl;
  size_is = zero-add _;
}

module _ (s : List ℕ) (at end n j : ℕ) (stamps : List ℕ) (i count : ℕ) (good : Bool) (size : ℕ) (on : OnPins s at end n j stamps i count good size) (within-s : end ≤ length s) where
  pub pins-stop : NoWord s i end → NoPins s at end stamps
  pins-stop word = record { len = on.len; none = on.count-is ∙ word_count s i end on.high within-s word count }

  module _ (v e : ℕ) (word : WordRead s i end v e) (r : Bool) (stamps' : List ℕ) (one : StampOne v n j r stamps stamps') (g : Bool) (both : g ≡ (good && r)) (d : ℕ) (wide : d ≡ length (digits v)) (narrow : d ≤ 10) where
    said : (vs : List ℕ) → values_at s i end ≡ v ∷ vs → named n [] (values_at s at end) ≡ (g && named n (on.seen ++ (v ∷ [])) vs)
    said vs w =
        on.says ∙ ap (λ (l : List ℕ). good && named n on.seen l) w
        ∙ ap (λ (b : Bool). good && b) (named-cons n on.seen v vs r (one.says on.seen on.stamped))
        ∙ and-three good r (named n (on.seen ++ (v ∷ [])) vs)
        ∙ ap (λ (b : Bool). b && named n (on.seen ++ (v ∷ [])) vs) (sym both)

    pub pins-last : e ≡ end → PinsChecked s at end n j (count + 1) g (size + (1 + d)) stamps'
    pins-last q =
        let w = values-last s i end e v on.high within-s word.ends word.value-is q in
        record {
          len = one.len ∙ on.len;
          some = omega arith;
          below = (one.next on.seen on.stamped).below;
          few = omega (arith, on.few, on.high);
          small = omega (arith, on.small);
          count-is = sym (on.count-is ∙ count-last s i end e count on.high within-s word.ends word.is q);
          says = sym (said [] w ∙ ap (λ (b : Bool). g && b) (named-nil n (on.seen ++ (v ∷ []))) ∙ and-true g);
          size_is = omega (arith, on.size_is, ap (λ (vs : List ℕ). length (commas vs)) w, commas-cons v [], commas-nil);
        }

    pub pins-on : (k : ℕ) → e < end → Skipped s (e + 1) end k → OnPins s at end n j stamps' k (count + 1) g (size + (1 + d))
    pins-on k lt skipped =
        let w = values-on s i end e v on.high within-s word.ends word.value-is k lt skipped in
        record {
          high = skipped.high;
          len = one.len ∙ on.len;
          few = omega (arith, on.few, word.low, skipped.low);
          small = omega (arith, on.small);
          seen = on.seen ++ (v ∷ []);
          stamped = one.next on.seen on.stamped;
          count-is = on.count-is ∙ count-on s i end e count on.high within-s word.ends word.is k lt skipped;
          says = said (values_at s k end) w;
          size_is = omega (arith, on.size_is, ap (λ (vs : List ℕ). length (commas vs)) w, commas-cons v (values_at s k end));
        }

-- ---- writing them
pub record OnPut (s : List ℕ) (at end : ℕ) (out₀ : List ℕ) (p : ℕ) (out : List ℕ) (i q : ℕ) : Type 0 where
  pub high : i ≤ end
  pub are : all (words (slice i end s)) is_number ≡ true
  pub left : Remains out₀ p (commas (values_at s at end)) out q (commas (values_at s i end))

module _ (s : List ℕ) (at end : ℕ) (out₀ : List ℕ) (p : ℕ) (out : List ℕ) (i q : ℕ) (on : OnPut s at end out₀ p out i q) (within-s : end ≤ length s) (room : p + length (commas (values_at s at end)) ≤ length out₀) (e v : ℕ) (found : FirstAt s i end 32 e) (is : v ≡ value (slice i e s)) where
  left-cons : (vs : List ℕ) → values_at s i end ≡ v ∷ vs → Remains out₀ p (commas (values_at s at end)) out q ((44 ∷ digits v) ++ commas vs)
  unfolding commas
  left-cons vs w = subst (λ (t : List ℕ). Remains out₀ p (commas (values_at s at end)) out q (commas t)) w on.left

  pub put-room : q + 1 + length (digits v) ≤ length out
  put-room =
      let w = values-first s i end e v on.high within-s found is in
      omega (arith, remains-room room (44 ∷ digits v) (commas w.0) (left-cons w.0 w.1))

  module _ (out' : List ℕ) (q' : ℕ) (wrote : Wrote out out' q (44 ∷ digits v) q') where
    pub put_last : e ≡ end → Wrote out₀ out' p (commas (values_at s at end)) q'
    unfolding commas
    put_last x = remains-none (remains-more room (44 ∷ digits v) [] (left-cons [] (values-last s i end e v on.high within-s found is x)) wrote)

    pub put_on : (k : ℕ) → e < end → Skipped s (e + 1) end k → OnPut s at end out₀ p out' k q'
    put_on k lt skipped = record {
      high = skipped.high;
      are = words-rest s i end e on.high within-s found on.are k lt skipped;
      left = remains-more room (44 ∷ digits v) (commas (values_at s k end)) (left-cons (values_at s k end) (values-on s i end e v on.high within-s found is k lt skipped)) wrote;
    }

-- ---- a whole edge
edge-from : (weighted : Bool) (ws : Fields) → edge_from weighted ws ≡ record { weight = weight_in weighted ws; pins = map value (pin_words weighted ws) }
edge-from false ws = refl
edge-from true [] = refl
edge-from true (w ∷ ws) = refl

pub edge-parts : (weighted : Bool) (l : List ℕ) → edge_of weighted l ≡ record { weight = weight_in weighted (words l); pins = map value (pin_words weighted (words l)) }
unfolding edge_of
edge-parts weighted l = edge-from weighted (words l)

tail-commas : (vs : List ℕ) → tail (numbers vs) ≡ commas vs ++ (10 ∷ [])
unfolding commas tail
tail-commas [] = refl
tail-commas (v ∷ vs) = ap (λ (t : List ℕ). 44 ∷ t) (ap (λ (t : List ℕ). digits v ++ t) (tail-commas vs) ∙ sym (append_assoc (digits v) (commas vs) (10 ∷ [])))

-- the line of an edge: its word, its weight, its vertices and the line feed
abbrev pub BUY : List ℕ
BUY = 66 ∷ 85 ∷ 89 ∷ []

edge_row_lem : (w : ℕ) (vs : List ℕ) → row "BUY" (numbers (w ∷ vs)) ≡ BUY ++ ((44 ∷ digits w) ++ (commas vs ++ (10 ∷ [])))
unfolding row bytes tail
edge_row_lem w vs = ap (λ (t : List ℕ). BUY ++ ((44 ∷ digits w) ++ t)) (tail-commas vs)

-- an edge's line has a lead
pub no_lead : {A : Type 0} (l : List ℕ) (weighted : Bool) (r : Option A) (Q : A → Type 0) → MatchOption r (is_edge weighted l ≡ false) Q → is_edge weighted l ≡ true → is_some r ≡ true
no_lead l weighted r Q told form = some_since r (is_edge weighted l ≡ false) Q told (λ q. true≢false (sym form ∙ q))

module _ (s : List ℕ) (at end : ℕ) (weighted : Bool) (w f : ℕ) (lead : LeadRead s at end weighted w f) where
  pub lead-numbers : is_edge weighted (slice at end s) ≡ true → all (words (slice f end s)) is_number ≡ true
  lead-numbers form = (numbers-are (slice f end s) 1 (omega arith) (sym lead.form ∙ form)).0

  edge-is : edge_of weighted (slice at end s) ≡ record { weight = w; pins = values_at s f end }
  edge-is = edge-parts weighted (slice at end s) ∙ ap₂ (λ (x : ℕ) (ws : Fields). record { weight = x; pins = map value ws }) (sym lead.weight_is) (sym lead.pins-are)

  pub edge-text : edge_row (edge_of weighted (slice at end s)) ≡ BUY ++ ((44 ∷ digits w) ++ (commas (values_at s f end) ++ (10 ∷ [])))
  edge-text = ap edge_row edge-is ∙ edge_row_lem w (values_at s f end)

  pub edge-good : (n j count : ℕ) (good : Bool) (size : ℕ) (stamps : List ℕ) (x : PinsChecked s f end n j count good size stamps) (b : Bool) → b ≡ within 1 1000 w → (g : Bool) → g ≡ (b && good)
      → (d : ℕ) → d ≡ length (digits w) → d ≤ 10 → EdgeChecked s at end weighted n j count g (size + 5 + d) stamps
  unfolding is_carried
  edge-good n j count good size stamps x b range g both d wide narrow = record {
    len = x.len;
    some = x.some;
    below = x.below;
    few = omega (arith, x.few, lead.low);
    small = omega (arith, x.small);
    form = lead.form ∙ ap (leb 1) (sym x.count-is) ∙ le-leb 1 count x.some;
    says = both ∙ ap₂ (λ (y t : Bool). y && t) range x.says ∙ sym (ap (is_carried n) edge-is);
    count-is = x.count-is ∙ numbers-length (slice f end s) (omega (arith, x.count-is, x.some)) ∙ sym (length-map (words (slice f end s)) value) ∙ sym (ap (λ (y : Edge). length y.pins) edge-is);
    size_is = omega (
      arith,
      x.size_is,
      ap length edge-text,
      length-append BUY ((44 ∷ digits w) ++ (commas (values_at s f end) ++ (10 ∷ []))),
      length-append (44 ∷ digits w) (commas (values_at s f end) ++ (10 ∷ [])),
      length-append (commas (values_at s f end)) (10 ∷ []),
    );
  }

-- the line of an edge written part by part
module _ (out text : List ℕ) (p w : ℕ) (vs : List ℕ) (room : p + length text ≤ length out) (is : text ≡ BUY ++ ((44 ∷ digits w) ++ (commas vs ++ (10 ∷ [])))) where
  left_word : Remains out p text out p (BUY ++ ((44 ∷ digits w) ++ (commas vs ++ (10 ∷ []))))
  left_word = subst (λ (t : List ℕ). Remains out p text out p t) is (remains-all out p text)

  pub word_room : p + 3 ≤ length out
  word_room = remains-room room BUY _ left_word

  module _ {out1 : List ℕ} {a : ℕ} (w1 : Wrote out out1 p BUY a) where
    left-field : Remains out p text out1 a ((44 ∷ digits w) ++ (commas vs ++ (10 ∷ [])))
    left-field = remains-more room BUY _ left_word w1

    pub field_room : a + 1 + length (digits w) ≤ length out1
    field_room = omega (arith, remains-room room (44 ∷ digits w) (commas vs ++ (10 ∷ [])) left-field)

    module _ {out2 : List ℕ} {b : ℕ} (w2 : Wrote out1 out2 a (44 ∷ digits w) b) where
      left-pins : Remains out p text out2 b (commas vs ++ (10 ∷ []))
      left-pins = remains-more room (44 ∷ digits w) _ left-field w2

      pub pins-room : b + length (commas vs) ≤ length out2
      pins-room = remains-room room (commas vs) (10 ∷ []) left-pins

      module _ {out3 : List ℕ} {c : ℕ} (w3 : Wrote out2 out3 b (commas vs) c) where
        left-feed : Remains out p text out3 c ((10 ∷ []) ++ [])
        left-feed = remains-more room (commas vs) (10 ∷ []) left-pins w3

        pub feed-room : c < length out3
        feed-room = omega (arith, remains-room room (10 ∷ []) [] left-feed)

        pub edge-written : Wrote out (set out3 c 10) p text (c + 1)
        edge-written = remains-none (remains-more room (10 ∷ []) [] left-feed (wrote_one out3 c 10 feed-room))
