-- A list of led call lines on the sets of tables of a hall: what it needs and promises, and the loop over it. Rests on Lines, Short and hall_led's Led.
-- Assumes nothing.
use Rattle.std.specs.Prelude.{ℕ, zero, suc, ◌+◌, ◌*◌, ◌-◌, ◌<◌, ◌≤◌, ◌≡◌, List, [], ◌∷◌, ◌++◌, length, get_or}
use Rattle.std.proofs.Common.{arith, sym, ap, ap₂, ◌∙◌, subst, length-append}
use Rattle.std.proofs.Math.Path.{refl}
use Rattle.model.specs.Grammar.{letter_n}
use Rattle.model.specs.Sale.{Sale}
use Rattle.model.specs.Memory.{Tables as MemoryTables}
use Rattle.model.specs.Hall.{Led, hall_after, hall_answers}
use Rattle.hall_guarantees.specs.Limit.{HallFine, fine-led, led-length}
use Rattle.fields.specs.Wrote.{Wrote}
use Rattle.fields.proofs.Laws.{wrote_none, wrote-append}
use Rattle.change_rules.specs.Free.{free-length}
use Rattle.operations.specs.Pairs.{pairs-length}
use Rattle.changes.specs.Stands.{joins-length}
use Rattle.call_list.specs.declared.course.Course.{Course}
use Rattle.call_list.specs.Asked.{request_of}
use Rattle.hall_step.specs.Sets.{Sets, set_of}
use Rattle.hall_led.specs.declared.Terms.{Terms}
use Rattle.hall_led.specs.Others.{no_course}
use Rattle.hall_led.specs.Desks.{HallStands}
use Rattle.hall_led.specs.Led.{led_by, led_row, Counts, LedReady, LedDone}
use Rattle.hall_calls.specs.Lines.{led_at, leds_to, after-suc, after_next, answers_next, answers-le}
use Rattle.hall_calls.specs.Short.{AllShort, short-led}

-- ---- the contract
-- the desks before the first line, on the sets and by the code's numbers
pub record Begins (ds : List Sale) (olds : ℕ → MemoryTables) (H : Sets) (netweights : List (List ℕ)) (limit count : ℕ) (ks : List ℕ) (ts : List Terms) (cs : List Course) : Type 0 where
  pub stands : HallStands ds olds H netweights ts cs
  pub fine : HallFine limit ds
  pub counts : Counts ds count ks ts

-- the lines of a table: each is led by one of the catalogues, and an N's numbers lie within the operands
pub record Listed (calls operands : List ℕ) (lines count : ℕ) : Type 0 where
  pub few : lines ≤ 512
  pub long : 4 * lines ≤ length calls
  pub led : (i : ℕ) → i < lines → (1 ≤ get_or calls (4 * i) 0) × (get_or calls (4 * i) 0 ≤ count)
  pub stretch : (i : ℕ) → i < lines → get_or calls (4 * i + 1) 0 ≡ letter_n → (2 ≤ get_or calls (4 * i + 3) 0) × (get_or calls (4 * i + 2) 0 + get_or calls (4 * i + 3) 0 ≤ length operands)

-- what the list needs: some desks with nothing on their stacks and records and no free numbers, and space for all answers
pub record CanRun (H : Sets) (netweights : List (List ℕ)) (limit count : ℕ) (ks : List ℕ) (ts : List Terms) (cs : List Course) (calls operands : List ℕ) (lines room : ℕ) : Type 0 where
  pub ds : List Sale
  pub olds : ℕ → MemoryTables
  pub begins : Begins ds olds H netweights limit count ks ts cs
  pub listed : Listed calls operands lines count
  pub short : AllShort 0 ds
  pub limit-few : limit ≤ 999999999
  pub ks-len : length ks ≡ 4
  pub ts-len : length ts ≡ 4
  pub cs-len : length cs ≡ 4
  pub fits : length (hall_answers limit ds (leds_to calls operands lines)) ≤ room

-- what its first n lines do: whatever desks the sets stood for, they stand for those that the lines leave, and the lines of their answers are written
pub record Ran (H H' : Sets) (netweights : List (List ℕ)) (limit count : ℕ) (ks : List ℕ) (ts : List Terms) (cs cs' : List Course) (calls operands : List ℕ) (n : ℕ) (out out' : List ℕ) (at : ℕ) : Type 0 where
  pub stands : (ds : List Sale) (olds : ℕ → MemoryTables) → Begins ds olds H netweights limit count ks ts cs → HallStands (hall_after limit ds (leds_to calls operands n)) olds H' netweights ts cs'
  pub wrote : (ds : List Sale) (olds : ℕ → MemoryTables) → Begins ds olds H netweights limit count ks ts cs → Wrote out out' 0 (hall_answers limit ds (leds_to calls operands n)) at
  -- sets without a catalogue keep what they held
  pub kept : (d : ℕ) → count ≤ d → set_of d H' ≡ set_of d H

-- ---- the hall after some of the lines
module _ (limit : ℕ) {calls operands : List ℕ} {lines count : ℕ} (t : Listed calls operands lines count) where
  abbrev reached : List Sale → ℕ → List Sale
  reached ds n = hall_after limit ds (leds_to calls operands n)

  reached-none : (ds : List Sale) → reached ds 0 ≡ ds
  unfolding leds_to hall_after
  reached-none ds = refl

  as_many : (ds : List Sale) (n : ℕ) → length (reached ds n) ≡ length ds
  as_many ds zero = ap length (reached-none ds)
  as_many ds (suc n) = ap length (after-suc limit ds calls operands n) ∙ led-length limit (reached ds n) (led_at calls operands n) ∙ as_many ds n

  module _ (ds : List Sale) (count-is : count ≡ length ds) where
    in-hall : (n : ℕ) → n < lines → (1 ≤ get_or calls (4 * n) 0) × (get_or calls (4 * n) 0 ≤ length (reached ds n))
    in-hall n l = ((t.led n l).0, omega (arith, (t.led n l).1, as_many ds n, count-is))

    pub fine-at : (n : ℕ) → n ≤ lines → HallFine limit ds → HallFine limit (reached ds n)
    fine-at zero l f = subst (HallFine limit) (sym (reached-none ds)) f
    fine-at (suc n) l f =
        let i = in-hall n (omega arith) in
        subst (HallFine limit) (sym (after-suc limit ds calls operands n)) (fine-led limit (reached ds n) (fine-at n (omega arith) f) (led_at calls operands n) i.0 i.1)

    pub short-at : (n : ℕ) → n ≤ lines → AllShort 0 ds → AllShort n (reached ds n)
    short-at zero l s = subst (AllShort 0) (sym (reached-none ds)) s
    short-at (suc n) l s =
        let i = in-hall n (omega arith) in
        subst (AllShort (suc n)) (sym (after-suc limit ds calls operands n)) (short-led limit n (reached ds n) (led_at calls operands n) (short-at n (omega arith) s) (omega (arith, i.0, i.1)))

  pub counts-at : {ks : List ℕ} {ts : List Terms} (ds : List Sale) (n : ℕ) → Counts ds count ks ts → Counts (reached ds n) count ks ts
  counts-at ds n k = record { count-is = k.count-is ∙ sym (as_many ds n); ks-are = λ d l. k.ks-are d (omega (arith, l, as_many ds n)) }

-- ---- the loop
module _ {H : Sets} {netweights : List (List ℕ)} {limit count : ℕ} {ks : List ℕ} {ts : List Terms} {cs : List Course} {calls operands : List ℕ} where
  -- no line
  pub ran-none : (out : List ℕ) → Ran H H netweights limit count ks ts cs cs calls operands 0 out out 0
  unfolding leds_to hall_after hall_answers
  ran-none out = record { stands = λ ds olds b. b.stands; wrote = λ ds olds b. wrote_none out 0; kept = λ d l. refl }

  module _ {lines room n : ℕ} {H' : Sets} {cs' : List Course} {out out' : List ℕ} {at : ℕ} (g : CanRun H netweights limit count ks ts cs calls operands lines room) (r : Ran H H' netweights limit count ks ts cs cs' calls operands n out out' at)
      (l : n < lines) (len : length cs' ≡ 4) where
    abbrev now : List Sale
    now = hall_after limit g.ds (leds_to calls operands n)

    own_in : get_or calls (4 * n) 0 - 1 < length now
    own_in = let i = in-hall limit g.listed g.ds g.begins.counts.count-is n l in omega (arith, i.0, i.1)

    -- what the next line needs
    led-ready : LedReady H' netweights limit count ks ts cs' room at (led_at calls operands n)
    led-ready =
        let c = get_or calls (4 * n) 0 - 1 in
        let stands = r.stands g.ds g.olds g.begins in
        let own = (stands.each c own_in).goes.stands in
        let short = short-at limit g.listed g.ds g.begins.counts.count-is n (omega arith) g.short c own_in in
        let more : n + 1 + (lines - (n + 1)) ≡ lines = omega arith in
        record {
          ds = now;
          olds = g.olds;
          stands = stands;
          fine = fine-at limit g.listed g.ds g.begins.counts.count-is n (omega arith) g.begins.fine;
          counts = counts-at limit g.listed g.ds n g.begins.counts;
          limit-few = g.limit-few;
          low = (g.listed.led n l).0;
          high = (g.listed.led n l).1;
          ks-len = g.ks-len;
          ts-len = g.ts-len;
          cs-len = len;
          stack-room = omega (arith, joins-length own, short.stack, l, g.listed.few);
          journal-room = omega (arith, sym (pairs-length (λ v x. record { vertex = v; from = x }) (get_or cs' c no_course).journal.vertices (get_or cs' c no_course).journal.blocks (get_or cs' c no_course).journal.len) ∙ ap length own.runs.journal-is, short.journal, l, g.listed.few);
          free-room = omega (arith, free-length (get_or cs' c no_course).free.numbers (get_or cs' c no_course).free.len, ap length own.free-is, short.free, l, g.listed.few);
          fits = omega (
            arith,
            (r.wrote g.ds g.olds g.begins).ends,
            g.fits,
            ap length (answers_next limit g.ds calls operands n),
            length-append (hall_answers limit g.ds (leds_to calls operands n)) (led_row limit now (led_at calls operands n)),
            answers-le limit g.ds calls operands (n + 1) (lines - (n + 1)),
            ap (λ (k : ℕ). length (hall_answers limit g.ds (leds_to calls operands k))) more,
          );
        }

    -- one line more
    ran-more : {H'' : Sets} {cs'' : List Course} {out'' : List ℕ} {at' : ℕ} → length out ≡ room → LedDone H' H'' netweights limit count ks ts cs' cs'' (led_at calls operands n) out' out'' at at'
        → Ran H H'' netweights limit count ks ts cs cs'' calls operands (n + 1) out out'' at'
    ran-more {H''} {cs''} {out''} {at'} ol d = record {
      stands = λ ds olds b.
          subst (λ (z : List Sale). HallStands z olds H'' netweights ts cs'') (sym (after_next limit ds calls operands n))
          (d.stands (hall_after limit ds (leds_to calls operands n)) olds (r.stands ds olds b) (fine-at limit g.listed ds b.counts.count-is n (omega arith) b.fine) (counts-at limit g.listed ds n b.counts));
      wrote = λ ds olds b.
          let w = r.wrote ds olds b in
          subst (λ (z : List ℕ). Wrote out out'' 0 z at') (sym (answers_next limit ds calls operands n))
          (wrote-append (same-room ds olds b) w
          (d.wrote (hall_after limit ds (leds_to calls operands n)) olds (r.stands ds olds b) (fine-at limit g.listed ds b.counts.count-is n (omega arith) b.fine) (counts-at limit g.listed ds n b.counts)));
      kept = λ d' past. d.kept d' (λ e. omega (arith, e, past, (g.listed.led n l).0, (g.listed.led n l).1)) ∙ r.kept d' past;
    }
      where
        -- the text ends where it does, whatever desks it is told of
        same-room : (ds : List Sale) (olds : ℕ → MemoryTables) → Begins ds olds H netweights limit count ks ts cs → 0 + length (hall_answers limit ds (leds_to calls operands n)) ≤ length out
        same-room ds olds b =
            let mine = r.wrote g.ds g.olds g.begins in
            let more : n + (lines - n) ≡ lines = omega arith in
            omega (arith, ol, (r.wrote ds olds b).ends, mine.ends, g.fits, answers-le limit g.ds calls operands n (lines - n), ap (λ (k : ℕ). length (hall_answers limit g.ds (leds_to calls operands k))) more)

    -- the same of the line as the code reads it
    module _ (x y : ℕ) (qx : x ≡ get_or calls (4 * n + 2) 0) (qy : y ≡ get_or calls (4 * n + 3) 0) where
      abbrev read : Led
      read = led_by (get_or calls (4 * n) 0) (request_of operands (get_or calls (4 * n + 1) 0) x y)

      read_is : read ≡ led_at calls operands n
      read_is = ap₂ (λ (x y : ℕ). led_by (get_or calls (4 * n) 0) (request_of operands (get_or calls (4 * n + 1) 0) x y)) qx qy

      pub can-lead : {room' : ℕ} → room' ≡ room → LedReady H' netweights limit count ks ts cs' room' at read
      can-lead e = subst (λ (k : ℕ). LedReady H' netweights limit count ks ts cs' k at read) (sym e) (subst (λ (z : Led). LedReady H' netweights limit count ks ts cs' room at z) (sym read_is) led-ready)

      pub stretch-in : get_or calls (4 * n + 1) 0 ≡ letter_n → (2 ≤ y) × (x + y ≤ length operands)
      stretch-in q = let s = g.listed.stretch n l q in (omega (arith, s.0, qy), omega (arith, s.1, qx, qy))

      pub ran-next : {H'' : Sets} {cs'' : List Course} {out'' : List ℕ} {at' : ℕ} → length out ≡ room → LedDone H' H'' netweights limit count ks ts cs' cs'' read out' out'' at at'
          → Ran H H'' netweights limit count ks ts cs cs'' calls operands (n + 1) out out'' at'
      ran-next {H''} {cs''} {out''} {at'} ol d = ran-more ol (subst (λ (z : Led). LedDone H' H'' netweights limit count ks ts cs' cs'' z out' out'' at at') read_is d)

  -- all lines
  pub ran-all : {H' : Sets} {cs' : List Course} {n lines : ℕ} {out out' : List ℕ} {at : ℕ} → n ≡ lines → Ran H H' netweights limit count ks ts cs cs' calls operands n out out' at
      → Ran H H' netweights limit count ks ts cs cs' calls operands lines out out' at
  ran-all {H'} {cs'} {out = out} {out'} {at} e = subst (λ (j : ℕ). Ran H H' netweights limit count ks ts cs cs' calls operands j out out' at) e
