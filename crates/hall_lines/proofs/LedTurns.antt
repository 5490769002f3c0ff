-- One call line of a hall after another: what the lines from a cursor on say. Rests on LedTable of specs, LedTables and text's laws of parts.
use Prim.Native.Nat.{ℕ, suc, ◌+◌, ◌*◌, ◌≤◌, ◌<◌}
use mathlib.Core.Path.{◌≡◌, refl, ap, sym, subst, ◌∙◌}
use mathlib.Core.List.{List, [], ◌∷◌, ◌++◌, map}
use mathlib.Core.Bool.{Bool, true, false, not, ◌&&◌, cond}
use native.Mathlib.Omega.{arith}
use native.Mathlib.Numerals.{add-one}
use lib.ListN.{length, get_or, set, drop, length-append, length-set}
use lib.Seq.{slice, slice_empty}
use lib.Dec.{leb, ltb}
use borrow.Author.Tests.{le-leb, lt-leb, ltb-true, ltb-false}
use Rattle.model.specs.Sale.{Request}
use Rattle.model.specs.Grammar.{at, parts, fields, is_number, within, Book, Asked, asks, nothing, asked}
use Rattle.model.specs.Lent.{listed}
use Rattle.model.specs.ListEntry.{is_entry}
use Rattle.model.specs.Hall.{Led}
use Rattle.model.specs.HallText.{HallReading, in_calls, hall_stopped, with_led, led_line, hall_line, hall_ending, hall_lines}
use Rattle.text.specs.Field.{first, FirstAt}
use Rattle.text.proofs.Walk.{slice_at, first-within, parts-some}
use Rattle.text.proofs.Lines.{parts-on, parts_last}
use Rattle.std.specs.Prelude.{Option, Some, None, Ok, Err}
use Rattle.refusal.specs.declared.Refusal.{Refusal}
use Rattle.refusal.specs.declared.Refusal.TheVariants.{BadlyWritten, OutOfRange, TooManyCalls}
use Rattle.refusal.specs.Number.{number_of, refused_at}
use Rattle.refusal.proofs.Results.{err-ok}
use Rattle.hall_lines.specs.Heading.{hall_book}
use Rattle.hall_lines.specs.Leading.{asked_behind, LedAsking, leading, LedRead}
use Rattle.hall_lines.specs.LedTable.{led, led_calls_of, led_entries_to, LedCallsRead}
use Rattle.hall_lines.specs.declared.LedAsk.{LedAsk}
use Rattle.hall_lines.proofs.LedTables.{led-entries-more, same-led-calls, put, led-calls-put, led-entries-put}

-- ---- the lines of a hall's file, from a cursor on
pub hall-stopped : (n q m : ℕ) (ls : List (List ℕ)) → hall_lines n (hall_stopped q m) ls ≡ hall_stopped q m
unfolding hall_lines hall_ending hall_line
hall-stopped n q m [] = refl
hall-stopped n q m (l ∷ []) = refl
hall-stopped n q m (l ∷ (k ∷ ls)) = hall-stopped (suc n) q m (k ∷ ls)

lines-on : (n : ℕ) (r : HallReading) (l rest : List ℕ) → hall_lines n r (l ∷ parts 10 rest) ≡ hall_lines (n + 1) (hall_line n r l) (parts 10 rest)
unfolding hall_lines
lines-on n r l rest = rw add-one (go (parts 10 rest) refl)
  where
    go : (ps : List (List ℕ)) → parts 10 rest ≡ ps → hall_lines n r (l ∷ ps) ≡ hall_lines (suc n) (hall_line n r l) ps
    go [] e = absurd (parts-some 10 rest e)
    go (p ∷ ps) e = refl

finish : (s : List ℕ) (len i n : ℕ) (r : HallReading) → i ≡ len → hall_lines n r (parts 10 (slice i len s)) ≡ hall_ending n r []
unfolding hall_lines parts
finish s len i n r e = rw (e, slice_empty)

module _ (s : List ℕ) (len i e n : ℕ) (le : i ≤ len) (inside : len ≤ length s) (found : FirstAt s i len 10 e) where
  pub hall-turn : (r : HallReading) → e < len → hall_lines n r (parts 10 (slice i len s)) ≡ hall_lines (n + 1) (hall_line n r (slice i e s)) (parts 10 (slice (e + 1) len s))
  hall-turn r more = ap (hall_lines n r) (parts-on s i len 10 e le inside found more) ∙ lines-on n r (slice i e s) (slice (e + 1) len s)

  pub hall-stop : (r : HallReading) (q m : ℕ) → e < len → hall_line n r (slice i e s) ≡ hall_stopped q m → hall_lines n r (parts 10 (slice i len s)) ≡ hall_stopped q m
  hall-stop r q m more h = hall-turn r more ∙ ap (λ (x : HallReading). hall_lines (n + 1) x (parts 10 (slice (e + 1) len s))) h ∙ hall-stopped (n + 1) q m (parts 10 (slice (e + 1) len s))

  -- no line feed any more
  pub hall-unended : (r : HallReading) → e ≡ len → hall_lines n r (parts 10 (slice i len s)) ≡ hall_ending n r (slice i len s)
  unfolding hall_lines
  hall-unended r last = ap (hall_lines n r) (parts_last s i len 10 e le inside found last) ∙ ap (λ (m : ℕ). hall_ending n r (slice i m s)) last

-- ---- a call line
module _ (count limit : ℕ) (ks : List Book) (cs : List Led) (n : ℕ) where
  line-by : (x : List ℕ) (f g : Bool) → leb 512 (length cs) ≡ f → is_number (get_or (fields x) 0 []) ≡ g
      → hall_line n (in_calls (hall_book count limit ks cs)) x ≡ cond f (hall_stopped 7 n) (cond (not g) (hall_stopped 2 n) (with_led n (hall_book count limit ks cs) (at (fields x) 0) (asked (drop 1 (fields x)))))
  unfolding hall_line led_line
  line-by x f g p q = rw (← p, ← q)

  line-full : (x : List ℕ) → 512 ≤ length cs → hall_line n (in_calls (hall_book count limit ks cs)) x ≡ hall_stopped 7 n
  line-full x u = line-by x true _ (le-leb 512 (length cs) u) refl

  line-bad : (x : List ℕ) → length cs < 512 → asked_behind (fields x) ≡ nothing → hall_line n (in_calls (hall_book count limit ks cs)) x ≡ hall_stopped 2 n
  unfolding with_led
  line-bad x u e = go (is_number (get_or (fields x) 0 [])) refl
    where
      go : (g : Bool) → is_number (get_or (fields x) 0 []) ≡ g → hall_line n (in_calls (hall_book count limit ks cs)) x ≡ hall_stopped 2 n
      go true p = line-by x false true (lt-leb 512 (length cs) u) p
          ∙ ap (with_led n (hall_book count limit ks cs) (at (fields x) 0)) (ap (λ (g : Bool). cond g (asked (drop 1 (fields x))) nothing) (sym p) ∙ e)
      go false p = line-by x false false (lt-leb 512 (length cs) u) p

  line-led : (x : List ℕ) (d : ℕ) (call : Request) (w : Bool) → length cs < 512 → is_number (get_or (fields x) 0 []) ≡ true → at (fields x) 0 ≡ d → asked (drop 1 (fields x)) ≡ asks call → within 1 count d ≡ w
      → hall_line n (in_calls (hall_book count limit ks cs)) x ≡ cond (not w) (hall_stopped 3 n) (in_calls (hall_book count limit ks (cs ++ (led d call ∷ []))))
  unfolding with_led
  line-led x d call w u p q a i =
      line-by x false true (lt-leb 512 (length cs) u) p
      ∙ ap (λ (y : ℕ). with_led n (hall_book count limit ks cs) y (asked (drop 1 (fields x)))) q
      ∙ ap (with_led n (hall_book count limit ks cs) d) a
      ∙ ap (λ (y : Bool). cond (not y) (hall_stopped 3 n) (in_calls (hall_book count limit ks (cs ++ (led d call ∷ []))))) i

  end-here : hall_ending n (in_calls (hall_book count limit ks cs)) [] ≡ in_calls (hall_book count limit ks cs)
  unfolding hall_ending
  end-here = refl

  end-inside : (x : ℕ) (xs : List ℕ) (f : Bool) → leb 512 (length cs) ≡ f → hall_ending n (in_calls (hall_book count limit ks cs)) (x ∷ xs) ≡ cond f (hall_stopped 7 n) (hall_stopped 2 n)
  unfolding hall_ending
  end-inside x xs f e = ap (λ (t : Bool). cond t (hall_stopped 7 n) (hall_stopped 2 n)) e

  -- a line that lacks its line feed
  lacks : (s : List ℕ) (len i e : ℕ) (f : Bool) → i < len → len ≤ length s → FirstAt s i len 10 e → e ≡ len → leb 512 (length cs) ≡ f
      → hall_lines n (in_calls (hall_book count limit ks cs)) (parts 10 (slice i len s)) ≡ cond f (hall_stopped 7 n) (hall_stopped 2 n)
  lacks s len i e f lt inside found last q =
      hall-unended s len i e n (omega arith) inside found (in_calls (hall_book count limit ks cs)) last
      ∙ ap (hall_ending n (in_calls (hall_book count limit ks cs))) (slice_at s i len lt inside)
      ∙ end-inside (get_or s i 0) (slice (i + 1) len s) f q

  calls-past : (s : List ℕ) (len i : ℕ) → i < len → len ≤ length s → 512 ≤ length cs → hall_lines n (in_calls (hall_book count limit ks cs)) (parts 10 (slice i len s)) ≡ hall_stopped 7 n
  calls-past s len i lt inside u = go (ltb e len) refl
    where
      e : ℕ
      e = i + first 10 (slice i len s)

      found : FirstAt s i len 10 e
      found = record { is = refl; low = omega arith; high = first-within s i len 10 (omega arith) inside }

      go : (t : Bool) → ltb e len ≡ t → hall_lines n (in_calls (hall_book count limit ks cs)) (parts 10 (slice i len s)) ≡ hall_stopped 7 n
      go true q = hall-stop s len i e n (omega arith) inside found (in_calls (hall_book count limit ks cs)) 7 n (ltb-true e len q) (line-full (slice i e s) u)
      go false q = lacks s len i e true lt inside found (omega (arith, ltb-false e len q, found.high)) (le-leb 512 (length cs) u)

-- ---- the lines of calls
-- c calls are read, up to the cursor i, with so many operands in use: half as many as the bytes before it at most
pub record OnLed (count : ℕ) (s : List ℕ) (at n : ℕ) (t₀ ops₀ t ops : List ℕ) (i c used : ℕ) : Type 0 where
  pub i-le : i ≤ length s
  pub short : length s ≤ 60000
  pub c-le : c ≤ 512
  pub n-le : n ≤ 4096
  pub wide : 2048 ≤ length t
  pub same : length t ≡ length t₀
  pub ops-wide : 30000 ≤ length ops
  pub ops-same : length ops ≡ length ops₀
  pub room : 2 * used ≤ i
  pub entries : led_entries_to count used c t ≡ true
  pub number : length (led_calls_of ops c t) ≡ c
  pub says : (limit : ℕ) (ks : List Book) → hall_lines n (in_calls (hall_book count limit ks [])) (parts 10 (slice at (length s) s)) ≡ hall_lines (n + c) (in_calls (hall_book count limit ks (led_calls_of ops c t))) (parts 10 (slice i (length s) s))

pub led-start : (count : ℕ) (s : List ℕ) (at n : ℕ) (t ops : List ℕ) → at ≤ length s → length s ≤ 60000 → n ≤ 4096 → 2048 ≤ length t → 30000 ≤ length ops → OnLed count s at n t ops t ops at 0 0
unfolding led_calls_of led_entries_to
led-start count s at n t ops a short b c d = record {
  i-le = a;
  short = short;
  c-le = omega arith;
  n-le = b;
  wide = c;
  same = refl;
  ops-wide = d;
  ops-same = refl;
  room = omega arith;
  entries = refl;
  number = refl;
  says = λ limit ks. let z : n + 0 ≡ n = omega arith in rw z;
}

module _ (count : ℕ) (s : List ℕ) (at n : ℕ) (t₀ ops₀ t ops : List ℕ) (i c used : ℕ) (on : OnLed count s at n t₀ ops₀ t ops i c used) where
  pub led-done : i ≡ length s → LedCallsRead count s at n (Ok c) t ops
  led-done e = record {
    known = λ d q.
        let z : c ≡ d = cc in
        rw (← z) (record { calls-le = on.c-le; known = on.number; entries = led-entries-more count used (length ops) c t (omega (arith, on.room, on.i-le, on.short, on.ops-wide)) on.entries });
    says = λ limit ks. sym (on.says limit ks ∙ finish s (length s) i (n + c) (in_calls (hall_book count limit ks (led_calls_of ops c t))) e ∙ end-here count limit ks (led_calls_of ops c t) (n + c));
  }

  module _ (lt : i < length s) where
    -- the file is turned down, and the operands may have changed
    stops : (ops' : List ℕ) (q : Refusal) (k : ℕ) → ((limit : ℕ) (ks : List Book) → hall_lines (n + c) (in_calls (hall_book count limit ks (led_calls_of ops c t))) (parts 10 (slice i (length s) s)) ≡ hall_stopped (number_of q) k) → LedCallsRead count s at n (Err (refused_at q k)) t ops'
    stops ops' q k f = record { known = λ d z. err-ok z; says = λ limit ks. sym (on.says limit ks ∙ f limit ks) }

    pub led-full : c ≡ 512 → LedCallsRead count s at n (Err (refused_at TooManyCalls (n + c))) t ops
    led-full e = stops ops TooManyCalls (n + c) (λ limit ks. calls-past count limit ks (led_calls_of ops c t) (n + c) s (length s) i lt (omega arith) (omega (arith, on.number)))

    module _ (e : ℕ) (found : FirstAt s i (length s) 10 e) (room : c < 512) where
      pub led-unended : e ≡ length s → LedCallsRead count s at n (Err (refused_at BadlyWritten (n + c))) t ops
      led-unended x = stops ops BadlyWritten (n + c) (λ limit ks. lacks count limit ks (led_calls_of ops c t) (n + c) s (length s) i e false lt (omega arith) found x (lt-leb 512 (length (led_calls_of ops c t)) (omega (arith, on.number))))

      -- where `led_line` answered r
      module _ (more : e < length s) (r : Option LedAsk) (ops' : List ℕ) (read : LedRead (fields (slice i e s)) e used r ops ops') where
        pub led-unread : r ≡ None → LedCallsRead count s at n (Err (refused_at BadlyWritten (n + c))) t ops'
        led-unread is =
            let x : asked_behind (fields (slice i e s)) ≡ nothing = subst (λ (y : Option LedAsk). leading (fields (slice i e s)) e used y ops') is read.says in
            stops ops' BadlyWritten (n + c) (λ limit ks. hall-stop s (length s) i e (n + c) (omega arith) (omega arith) found (in_calls (hall_book count limit ks (led_calls_of ops c t))) 2 (n + c) more (line-bad count limit ks (led_calls_of ops c t) (n + c) (slice i e s) (omega (arith, on.number)) x))

        module _ (y : LedAsk) (is : r ≡ Some y) where
          abbrev d : ℕ
          d = y.catalogue

          abbrev k : ℕ
          k = y.ask.letter

          abbrev a : ℕ
          a = y.ask.first

          abbrev b : ℕ
          b = y.ask.second

          abbrev u : ℕ
          u = y.ask.used

          x : LedAsking (fields (slice i e s)) e used d k a b u ops'
          x = subst (λ (y : Option LedAsk). leading (fields (slice i e s)) e used y ops') is read.says

          by-lead : (limit : ℕ) (ks : List Book) (w : Bool) → within 1 count d ≡ w
              → hall_line (n + c) (in_calls (hall_book count limit ks (led_calls_of ops c t))) (slice i e s) ≡ cond (not w) (hall_stopped 3 (n + c)) (in_calls (hall_book count limit ks (led_calls_of ops c t ++ (led d x.asking.call ∷ []))))
          by-lead limit ks w p = line-led count limit ks (led_calls_of ops c t) (n + c) (slice i e s) d x.asking.call w (omega (arith, on.number)) x.number x.lead x.asking.says p

          pub led-stranger : within 1 count d ≡ false → LedCallsRead count s at n (Err (refused_at OutOfRange (n + c))) t ops'
          led-stranger p = stops ops' OutOfRange (n + c) (λ limit ks. hall-stop s (length s) i e (n + c) (omega arith) (omega arith) found (in_calls (hall_book count limit ks (led_calls_of ops c t))) 3 (n + c) more (by-lead limit ks false p))

          module _ (known : within 1 count d ≡ true) where
            calls-one : led_calls_of ops' (c + 1) (put t c d k a b (omega (arith, on.wide))) ≡ led_calls_of ops c t ++ (led d x.asking.call ∷ [])
            calls-one =
                led-calls-put t c d k a b (omega (arith, on.wide)) ops'
                ∙ ap (λ (y : Asked). led_calls_of ops' c t ++ map (led d) (listed y)) x.asking.is
                ∙ ap (λ (cs : List Led). cs ++ (led d x.asking.call ∷ [])) (same-led-calls count used ops ops' read.keep c t on.entries)

            pub led_on : OnLed count s at n t₀ ops₀ (set (set (set (set t (4 * c) d) (4 * c + 1) k) (4 * c + 2) a) (4 * c + 3) b) ops' (e + 1) (c + 1) u
            led_on = record {
              i-le = omega arith;
              short = on.short;
              c-le = omega arith;
              n-le = on.n-le;
              wide = simp length-set on.wide;
              same = simp length-set on.same;
              ops-wide = omega (arith, read.len, on.ops-wide);
              ops-same = read.len ∙ on.ops-same;
              room = omega (arith, x.asking.room);
              entries = led-entries-put t c d k a b (omega (arith, on.wide)) count u
                  ∙ ap (λ (y : Bool). y && (within 1 count d && is_entry u k a b)) (led-entries-more count used u c t x.asking.more on.entries)
                  ∙ ap (λ (y : Bool). y && is_entry u k a b) known
                  ∙ x.asking.entry;
              number = ap length calls-one ∙ length-append (led_calls_of ops c t) (led d x.asking.call ∷ []) ∙ ap (λ (y : ℕ). y + 1) on.number;
              says = λ limit ks.
                  let z : n + (c + 1) ≡ n + c + 1 = omega arith in
                  on.says limit ks
                  ∙ hall-turn s (length s) i e (n + c) (omega arith) (omega arith) found (in_calls (hall_book count limit ks (led_calls_of ops c t))) more
                  ∙ ap (λ (r : HallReading). hall_lines (n + c + 1) r (parts 10 (slice (e + 1) (length s) s))) (by-lead limit ks true known)
                  ∙ rw (z, calls-one);
            }
