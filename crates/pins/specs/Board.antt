-- All nets' pin lists and the incidence against a contraction stack for each net, the room they need, and what is left alone. A loop over the
-- nets that is half done has the new stack below its net and the old one from there on. Rests on Stretch.
use Rattle.std.specs.Prelude.{ℕ, ◌+◌, ◌*◌, ◌≤◌, ◌<◌, ◌≡◌, refl, Bool, cond, ◌⊎◌, List, [], ltb, length, get_or}
use Rattle.std.proofs.Common.{arith, sym, ap, ◌∙◌, lt-ltb, le-ltb}
use Rattle.laws.specs.Choice.{one}
use Rattle.laws.specs.Occurrence.{occ}
use Rattle.model.specs.Measure.{Contraction, above}
use Rattle.incidence.specs.On.{on}
use Rattle.pins.specs.Stack.{row, past, present-on}
use Rattle.laws.specs.Rising.{Rising}
use Rattle.pins.specs.Stretch.{Stretch}

-- v contracted into u; the code counts vertices from 0
abbrev pub join : ℕ → ℕ → Contraction
join u v = record { into = u + 1; gone = v + 1 }

-- s below e, and t from e on
unfoldable pub half : {A : Type 0} → ℕ → A → A → ℕ → A
half e s t d = cond (ltb d e) s t

pub half-below : {A : Type 0} (e : ℕ) (s t : A) (d : ℕ) → d < e → half e s t d ≡ s
unfolding half
half-below e s t d l = ap (λ (b : Bool). cond b s t) (lt-ltb d e l)

pub half-from : {A : Type 0} (e : ℕ) (s t : A) (d : ℕ) → e ≤ d → half e s t d ≡ t
unfolding half
half-from e s t d l = ap (λ (b : Bool). cond b s t) (le-ltb d e l)

-- pins and incidence are what the stack `st e` says, for each net e
pub record Board (own : ℕ → ℕ → Bool) (st : ℕ → List Contraction) (pins firsts sizes loaded bits : List ℕ) (n m : ℕ) : Type 0 where
  pub nets : (e : ℕ) → e < m → Stretch (own e) (st e) pins (get_or firsts e 0) (get_or sizes e 0) (get_or loaded e 0)
  pub marked : (x e : ℕ) → x < n → e < m → on bits x e ≡ one (row (own e) (st e) (x + 1))

-- the tables are long enough, and no two nets' stretches meet
pub record Room (pins firsts sizes loaded bits : List ℕ) (n m : ℕ) : Type 0 where
  pub firsts-fit : m ≤ length firsts
  pub sizes-fit : m ≤ length sizes
  pub loaded-fit : m ≤ length loaded
  pub bits_fit : 16 * n ≤ length bits
  pub few-nets : m ≤ 1024
  pub few-vertices : n ≤ 1024
  pub pins-fit : (e : ℕ) → e < m → get_or firsts e 0 + get_or loaded e 0 ≤ length pins
  pub apart : (d e : ℕ) → d < m → e < m → (d ≡ e → ⊥) → (get_or firsts d 0 + get_or loaded d 0 ≤ get_or firsts e 0) ⊎ (get_or firsts e 0 + get_or loaded e 0 ≤ get_or firsts d 0)

-- the places in no net's stretch, and the sizes past the nets, stand as they stood
pub record KeptLists (firsts loaded : List ℕ) (m : ℕ) (pins pins' sizes sizes' : List ℕ) : Type 0 where
  pub pins-len : length pins' ≡ length pins
  pub sizes-len : length sizes' ≡ length sizes
  pub pins-past : (i : ℕ) → ((e : ℕ) → e < m → (i < get_or firsts e 0) ⊎ (get_or firsts e 0 + get_or loaded e 0 ≤ i)) → get_or pins' i 0 ≡ get_or pins i 0
  pub sizes-past : (e : ℕ) → m ≤ e → get_or sizes' e 0 ≡ get_or sizes e 0

pub room-kept : {pins pins' firsts sizes sizes' loaded bits bits' : List ℕ} {n m : ℕ} → length pins' ≡ length pins → length sizes' ≡ length sizes → length bits' ≡ length bits →
    Room pins firsts sizes loaded bits n m → Room pins' firsts sizes' loaded bits' n m
room-kept hp hs hb r = record {
  firsts-fit = r.firsts-fit;
  sizes-fit = omega (arith, r.sizes-fit);
  loaded-fit = r.loaded-fit;
  bits_fit = omega (arith, r.bits_fit);
  few-nets = r.few-nets;
  few-vertices = r.few-vertices;
  pins-fit = λ e l. omega (arith, r.pins-fit e l);
  apart = r.apart;
}

-- ---- lists as loaded: the empty stack
stretch-loaded : (own : ℕ → Bool) (l : List ℕ) (f n : ℕ) → ((x : ℕ) → occ l f n x ≡ one (own x)) → Rising l f n → Stretch own [] l f n n
unfolding past row above
stretch-loaded own l f n h up = record {
  pins = λ x. h x ∙ sym (present-on own [] x refl);
  rising = up;
  whole = omega arith;
  after = λ i k. absurd (omega arith);
}

pub board-loaded : (own : ℕ → ℕ → Bool) (pins firsts sizes bits : List ℕ) (n m : ℕ) → ((e : ℕ) → e < m → (x : ℕ) → occ pins (get_or firsts e 0) (get_or sizes e 0) x ≡ one (own e x)) →
    ((e : ℕ) → e < m → Rising pins (get_or firsts e 0) (get_or sizes e 0)) → ((x e : ℕ) → x < n → e < m → on bits x e ≡ one (own e (x + 1))) → Board own (λ _. []) pins firsts sizes sizes bits n m
unfolding row
board-loaded own pins firsts sizes bits n m h up b = record {
  nets = λ e l. stretch-loaded (own e) pins (get_or firsts e 0) (get_or sizes e 0) (h e l) (up e l);
  marked = b;
}
