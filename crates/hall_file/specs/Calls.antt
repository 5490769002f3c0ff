-- The table of led calls that loading leaves is the list that the calls are run from. Rests on hall_lines' LedTable and on hall_calls. Assumes nothing.
use Prim.Native.Nat.{ℕ, zero, suc, ◌+◌, ◌*◌, ◌<◌, ◌≤◌}
use Rattle.std.proofs.Math.Decide.{ℕ_discrete}
use Rattle.std.proofs.Common.{arith, sym, ◌∙◌, eq-eqb, leb-true}
use Rattle.std.specs.Prelude.{◌≡◌, Bool, ◌&&◌, leb, length, get_or}
use Rattle.std.proofs.Math.Path.{refl, ap, ap₂}
use Rattle.std.proofs.Math.Bool.{true}
use mathlib.Core.List.{List, [], ◌∷◌, ◌++◌, map}
use Rattle.laws.specs.Choice.{and_left, and_right}
use Rattle.model.specs.Sale.{Request}
use Rattle.model.specs.Grammar.{Asked, asks, nothing, call_of, letter_n, within}
use Rattle.model.specs.Lent.{listed, calls_of}
use Rattle.model.specs.ListEntry.{is_entry, entries_to}
use Rattle.model.specs.Hall.{Led}
use Rattle.reader.proofs.CallTable.{stretch-in, entries-known}
use Rattle.call_list.specs.Asked.{request_of, request-is}
use Rattle.hall_lines.specs.LedTable.{led, led_calls_of, led_entries_to, LedCallsKnown}
use Rattle.hall_calls.specs.Lines.{leds_to}
use Rattle.hall_calls.specs.Course.{Listed}

-- ---- one entry
entry_in : (n k a b : ℕ) → is_entry n k a b ≡ true → entries_to n (suc zero) (k ∷ a ∷ b ∷ []) ≡ true
unfolding entries_to
entry_in n k a b e = e

calls-three : (ops : List ℕ) (k a b : ℕ) → calls_of ops (suc zero) (k ∷ a ∷ b ∷ []) ≡ listed (call_of ops k a b)
unfolding calls_of
calls-three ops k a b = refl

entry-one : (ops : List ℕ) (k a b : ℕ) → is_entry (length ops) k a b ≡ true → length (listed (call_of ops k a b)) ≡ 1
entry-one ops k a b e = ap length (sym (calls-three ops k a b)) ∙ entries-known ops (suc zero) (k ∷ a ∷ b ∷ []) (entry_in (length ops) k a b e)

entry-stretch : (ops : List ℕ) (k a b : ℕ) → is_entry (length ops) k a b ≡ true → k ≡ letter_n → (2 ≤ b) × (a + b ≤ length ops)
entry-stretch ops k a b e q = stretch-in (length ops) k a b e (eq-eqb k letter_n q)

entry-led : (d : ℕ) (ops : List ℕ) (k a b : ℕ) → is_entry (length ops) k a b ≡ true → map (led d) (listed (call_of ops k a b)) ≡ led d (request_of ops k a b) ∷ []
entry-led d ops k a b e = go (call_of ops k a b) refl (entry-one ops k a b e)
  where
    go : (r : Asked) → call_of ops k a b ≡ r → length (listed r) ≡ 1 → map (led d) (listed r) ≡ led d (request_of ops k a b) ∷ []
    go (asks next) q l = ap (λ (x : Request). led d x ∷ []) (sym (request-is ops k a b next (entry-stretch ops k a b e) q))
    go nothing q l = absurd (omega (arith, l))

-- ---- the table
module _ (count : ℕ) (calls ops : List ℕ) where
  abbrev entry : ℕ → Bool
  entry i = within 1 count (get_or calls (4 * i) 0) && is_entry (length ops) (get_or calls (4 * i + 1) 0) (get_or calls (4 * i + 2) 0) (get_or calls (4 * i + 3) 0)

  entry_at : (n : ℕ) → led_entries_to count (length ops) n calls ≡ true → (i : ℕ) → i < n → entry i ≡ true
  unfolding led_entries_to
  entry_at zero e i l = absurd (omega arith)
  entry_at (suc n) e i l = go (ℕ_discrete i n) (entry_at n (and_left (led_entries_to count (length ops) n calls) _ e) i)
    where
      go : Dec (i ≡ n) → (i < n → entry i ≡ true) → entry i ≡ true
      go (yes q) below = ap entry q ∙ and_right (led_entries_to count (length ops) n calls) _ e
      go (no q) below = below (omega (arith, q))

  pub leds-are : (n : ℕ) → led_entries_to count (length ops) n calls ≡ true → leds_to calls ops n ≡ led_calls_of ops n calls
  unfolding leds_to led_calls_of led_entries_to
  leds-are zero e = refl
  leds-are (suc n) e =
      let below = and_left (led_entries_to count (length ops) n calls) _ e in
      let own = and_right (led_entries_to count (length ops) n calls) _ e in
      ap₂ (λ (x y : List Led). x ++ y) (leds-are n below)
      (sym (entry-led (get_or calls (4 * n) 0) ops (get_or calls (4 * n + 1) 0) (get_or calls (4 * n + 2) 0) (get_or calls (4 * n + 3) 0) (and_right (within 1 count (get_or calls (4 * n) 0)) _ own)))

  pub listed-is : (n : ℕ) → LedCallsKnown count n calls ops → 2048 ≤ length calls → Listed calls ops n count
  listed-is n k l = record {
    few = k.calls-le;
    long = omega (arith, k.calls-le, l);
    led = λ i u.
        let w = and_left (within 1 count (get_or calls (4 * i) 0)) _ (entry_at n k.entries i u) in
        (leb-true 1 (get_or calls (4 * i) 0) (and_left (leb 1 (get_or calls (4 * i) 0)) _ w), leb-true (get_or calls (4 * i) 0) count (and_right (leb 1 (get_or calls (4 * i) 0)) _ w));
    stretch = λ i u. entry-stretch ops (get_or calls (4 * i + 1) 0) (get_or calls (4 * i + 2) 0) (get_or calls (4 * i + 3) 0) (and_right (within 1 count (get_or calls (4 * i) 0)) _ (entry_at n k.entries i u));
  }
