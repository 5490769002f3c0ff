-- One line after another: what the lines from a cursor on say, a catalogue's and a file's; the lines of calls. Rests on Seen, CallTable and text's laws of parts.
use Prim.Native.Nat.{ℕ, suc, ◌+◌, ◌*◌, ◌≤◌, ◌<◌}
use mathlib.Core.Path.{◌≡◌, refl, ap, sym, subst, ◌∙◌}
use mathlib.Core.List.{List, [], ◌∷◌, ◌++◌}
use mathlib.Core.Bool.{Bool, true, false, ◌&&◌, cond}
use native.Mathlib.Omega.{arith}
use native.Mathlib.Numerals.{add-one}
use lib.ListN.{length, get_or, set, length-append, length-set}
use lib.Seq.{slice, slice_empty}
use lib.Dec.{eqb, ltb}
use borrow.Author.Tests.{eqb-true, le-ltb, le-leb, lt-leb, ltb-true, ltb-false}
use Rattle.laws.specs.Choice.{and_left, and_right}
use Rattle.model.specs.Catalogue.{Limits, Hypergraph}
use Rattle.model.specs.Sale.{Request}
use Rattle.model.specs.Grammar.{Reading, reading, stopped, parts, fields, Asked, asks, nothing, asked, with_call, whole, full, call_line, line, ending, lines}
use Rattle.model.specs.Through.{refused, through}
use Rattle.guarantees.specs.Through.{unfinished, stage-on}
use Rattle.model.specs.Lent.{listed, calls_of}
use Rattle.model.specs.ListEntry.{is_entry, entries_to}
use Rattle.text.specs.Field.{first, FirstAt}
use Rattle.text.proofs.Walk.{slice_at, first-within, parts-some}
use Rattle.text.proofs.Lines.{parts-on, parts_last}
use Rattle.lines.specs.Line.{book}
use Rattle.lines.specs.Late.{Asking, answered, CallRead}
use Rattle.lines.specs.declared.Ask.{Ask}
use Rattle.std.specs.Prelude.{Option, Some, None, Ok, Err}
use Rattle.refusal.specs.declared.Refusal.{Refusal}
use Rattle.refusal.specs.declared.Refusal.TheVariants.{BadlyWritten, TooManyCalls}
use Rattle.refusal.specs.Number.{number_of, refused_at}
use Rattle.refusal.proofs.Results.{err-ok}
use Rattle.reader.specs.Seen.{CallsRead}
use Rattle.reader.proofs.CallTable.{entries-more, same-calls, calls-put, entries-put}

lines-stopped : (limits : Limits) (n q m : ℕ) (ls : List (List ℕ)) → lines limits n (stopped q m) ls ≡ stopped q m
unfolding lines ending line
lines-stopped limits n q m [] = refl
lines-stopped limits n q m (l ∷ []) = refl
lines-stopped limits n q m (l ∷ (k ∷ ls)) = lines-stopped limits (suc n) q m (k ∷ ls)

lines-on : (limits : Limits) (n : ℕ) (r : Reading) (l rest : List ℕ) → lines limits n r (l ∷ parts 10 rest) ≡ lines limits (n + 1) (line limits n r l) (parts 10 rest)
unfolding lines
lines-on limits n r l rest = rw add-one (go (parts 10 rest) refl)
  where
    go : (ps : List (List ℕ)) → parts 10 rest ≡ ps → lines limits n r (l ∷ ps) ≡ lines limits (suc n) (line limits n r l) ps
    go [] e = absurd (parts-some 10 rest e)
    go (p ∷ ps) e = refl

pub finish : (limits : Limits) (s : List ℕ) (len i n : ℕ) (r : Reading) → i ≡ len → lines limits n r (parts 10 (slice i len s)) ≡ ending n r []
unfolding lines parts
finish limits s len i n r e = rw (e, slice_empty)

module _ (limits : Limits) (s : List ℕ) (len i e n : ℕ) (lt : i < len) (within : len ≤ length s) (found : FirstAt s i len 10 e) where
  pub turn : (r : Reading) → e < len → lines limits n r (parts 10 (slice i len s)) ≡ lines limits (n + 1) (line limits n r (slice i e s)) (parts 10 (slice (e + 1) len s))
  turn r more = ap (lines limits n r) (parts-on s i len 10 e (omega arith) within found more) ∙ lines-on limits n r (slice i e s) (slice (e + 1) len s)

  pub turn-stop : (r : Reading) (q m : ℕ) → e < len → line limits n r (slice i e s) ≡ stopped q m → lines limits n r (parts 10 (slice i len s)) ≡ stopped q m
  turn-stop r q m more h = turn r more ∙ ap (λ (x : Reading). lines limits (n + 1) x (parts 10 (slice (e + 1) len s))) h ∙ lines-stopped limits (n + 1) q m (parts 10 (slice (e + 1) len s))

  pub unended : (r : Reading) (x : Reading) → e ≡ len → ((b : ℕ) (bs : List ℕ) → ending n r (b ∷ bs) ≡ x) → lines limits n r (parts 10 (slice i len s)) ≡ x
  unfolding lines
  unended r x last h =
      ap (lines limits n r) (parts_last s i len 10 e (omega arith) within found last)
      ∙ ap (λ (m : ℕ). ending n r (slice i m s)) last
      ∙ ap (ending n r) (slice_at s i len lt within)
      ∙ h (get_or s i 0) (slice (i + 1) len s)

-- ---- a catalogue's lines
step-on : (limits : Limits) (n : ℕ) (r : Reading) (l rest : List ℕ) → unfinished r ≡ true → through limits n r (l ∷ parts 10 rest) ≡ through limits (n + 1) (line limits n r l) (parts 10 rest)
unfolding through
step-on limits n r l rest g = rw add-one (go (parts 10 rest) refl)
  where
    go : (ps : List (List ℕ)) → parts 10 rest ≡ ps → through limits n r (l ∷ ps) ≡ through limits (suc n) (line limits n r l) ps
    go [] e = absurd (parts-some 10 rest e)
    go (p ∷ ps) e = stage-on n _ _ r g

-- a line more, at any cursor before a line feed
pub through-on : (limits : Limits) (s : List ℕ) (len i e n : ℕ) → i ≤ len → len ≤ length s → FirstAt s i len 10 e → (r : Reading) → unfinished r ≡ true → e < len
    → through limits n r (parts 10 (slice i len s)) ≡ through limits (n + 1) (line limits n r (slice i e s)) (parts 10 (slice (e + 1) len s))
through-on limits s len i e n le within found r g more = ap (through limits n r) (parts-on s i len 10 e le within found more) ∙ step-on limits n r (slice i e s) (slice (e + 1) len s) g

-- no line feed any more
pub through-none : (limits : Limits) (s : List ℕ) (len i e n : ℕ) → i ≤ len → len ≤ length s → FirstAt s i len 10 e → (r : Reading) → unfinished r ≡ true → e ≡ len → through limits n r (parts 10 (slice i len s)) ≡ refused 2 n
unfolding through
through-none limits s len i e n le within found r g last = ap (through limits n r) (parts_last s i len 10 e le within found last) ∙ stage-on n _ _ r g

-- ---- the calls
module _ (limits : Limits) (est : Bool) (l b m : ℕ) (h : Hypergraph) (cs : List Request) (w : whole (book est l b h m []) ≡ true) (n : ℕ) where
  call-turn : (x : List ℕ) → line limits n (reading (book est l b h m cs)) x ≡ call_line n (book est l b h m cs) (fields x)
  unfolding line
  call-turn x =
      rw (
        le-ltb (length h.weights) l (omega (arith, eqb-true (length h.weights) l (and_left _ _ w))),
        le-ltb (length h.nets) b (omega (arith, eqb-true (length h.nets) b (and_right (eqb (length h.weights) l) _ w))),
      )

  not_full : length cs < 512 → full (book est l b h m cs) ≡ false
  not_full u = rw (lt-leb 512 (length cs) u) (go (whole (book est l b h m [])))
    where
      go : (t : Bool) → (t && false) ≡ false
      go true = refl
      go false = refl

  is-full : 512 ≤ length cs → full (book est l b h m cs) ≡ true
  is-full u = rw (w, le-leb 512 (length cs) u)

  call-line-is : (x : List ℕ) (t : Bool) → full (book est l b h m cs) ≡ t → line limits n (reading (book est l b h m cs)) x ≡ cond t (stopped 7 n) (with_call n (book est l b h m cs) (asked (fields x)))
  unfolding call_line
  call-line-is x t e = call-turn x ∙ ap (λ (u : Bool). cond u (stopped 7 n) (with_call n (book est l b h m cs) (asked (fields x)))) e

  pub call-bad : (x : List ℕ) → length cs < 512 → nothing ≡ asked (fields x) → line limits n (reading (book est l b h m cs)) x ≡ stopped 2 n
  unfolding with_call
  call-bad x u e = call-line-is x false (not_full u) ∙ ap (with_call n (book est l b h m cs)) (sym e)

  pub call-more : (x : List ℕ) (c : Request) → length cs < 512 → asks c ≡ asked (fields x) → line limits n (reading (book est l b h m cs)) x ≡ reading (book est l b h m (cs ++ (c ∷ [])))
  unfolding with_call
  call-more x c u e = call-line-is x false (not_full u) ∙ ap (with_call n (book est l b h m cs)) (sym e)

  pub call-end : ending n (reading (book est l b h m cs)) [] ≡ reading (book est l b h m cs)
  unfolding ending
  call-end = ap (λ (t : Bool). cond t (reading (book est l b h m cs)) (stopped 2 n)) w

  pub call-unended : length cs < 512 → (x : ℕ) (xs : List ℕ) → ending n (reading (book est l b h m cs)) (x ∷ xs) ≡ stopped 2 n
  unfolding ending
  call-unended u x xs = ap (λ (t : Bool). cond t (stopped 7 n) (stopped 2 n)) (not_full u)

  pub call-full : (s : List ℕ) (len i : ℕ) → i < len → len ≤ length s → 512 ≤ length cs → lines limits n (reading (book est l b h m cs)) (parts 10 (slice i len s)) ≡ stopped 7 n
  unfolding ending
  call-full s len i lt within u = go (ltb e len) refl
    where
      e : ℕ
      e = i + first 10 (slice i len s)

      found : FirstAt s i len 10 e
      found = record { is = refl; low = omega arith; high = first-within s i len 10 (omega arith) within }

      go : (t : Bool) → ltb e len ≡ t → lines limits n (reading (book est l b h m cs)) (parts 10 (slice i len s)) ≡ stopped 7 n
      go true q = turn-stop limits s len i e n lt within found (reading (book est l b h m cs)) 7 n (ltb-true e len q) (call-line-is (slice i e s) true (is-full u))
      go false q = unended limits s len i e n lt within found (reading (book est l b h m cs)) (stopped 7 n) (omega (arith, ltb-false e len q, found.high))
          (λ x xs. ap (λ (t : Bool). cond t (stopped 7 n) (stopped 2 n)) (is-full u))

-- ---- the lines of calls
-- c calls are read, up to the cursor i, with so many operands in use: half as many as the bytes before it at most
pub record OnCalls (s : List ℕ) (at n : ℕ) (t₀ ops₀ t ops : List ℕ) (i c used : ℕ) : Type 0 where
  pub i-le : i ≤ length s
  pub short : length s ≤ 60000
  pub c-le : c ≤ 512
  pub n-le : n ≤ 4096
  pub wide : 1536 ≤ length t
  pub same : length t ≡ length t₀
  pub ops-wide : 30000 ≤ length ops
  pub ops-same : length ops ≡ length ops₀
  pub room : 2 * used ≤ i
  pub entries : entries_to used c t ≡ true
  pub count : length (calls_of ops c t) ≡ c
  pub says : (limits : Limits) (est : Bool) (l b m : ℕ) (h : Hypergraph) → whole (book est l b h m []) ≡ true
      → lines limits n (reading (book est l b h m [])) (parts 10 (slice at (length s) s)) ≡ lines limits (n + c) (reading (book est l b h m (calls_of ops c t))) (parts 10 (slice i (length s) s))

pub calls-start : (s : List ℕ) (at n : ℕ) (t ops : List ℕ) → at ≤ length s → length s ≤ 60000 → n ≤ 4096 → 1536 ≤ length t → 30000 ≤ length ops → OnCalls s at n t ops t ops at 0 0
unfolding calls_of entries_to
calls-start s at n t ops a short b c d = record {
  i-le = a;
  short = short;
  c-le = omega arith;
  n-le = b;
  wide = c;
  same = refl;
  ops-wide = d;
  ops-same = refl;
  room = omega arith;
  entries = refl;
  count = refl;
  says = λ limits est l b m h w. let z : n + 0 ≡ n = omega arith in rw z;
}

module _ (s : List ℕ) (at n : ℕ) (t₀ ops₀ t ops : List ℕ) (i c used : ℕ) (on : OnCalls s at n t₀ ops₀ t ops i c used) where
  pub calls-done : i ≡ length s → CallsRead s at n (Ok c) t ops
  calls-done e = record {
    known = λ d q. let z : c ≡ d = cc in (omega (arith, on.c-le), rw (← z) on.count);
    entries = λ d q. let z : c ≡ d = cc in rw (← z) (entries-more used (length ops) c t (omega (arith, on.room, on.i-le, on.short, on.ops-wide)) on.entries);
    says = λ limits est l b m h w. sym (on.says limits est l b m h w ∙ finish limits s (length s) i (n + c) (reading (book est l b h m (calls_of ops c t))) e ∙ call-end limits est l b m h (calls_of ops c t) w (n + c));
  }

  module _ (lt : i < length s) where
    -- the file is turned down, and the operands may have changed
    stops : (ops' : List ℕ) (q : Refusal) (k : ℕ) → ((limits : Limits) (est : Bool) (l b m : ℕ) (h : Hypergraph) → whole (book est l b h m []) ≡ true
        → lines limits (n + c) (reading (book est l b h m (calls_of ops c t))) (parts 10 (slice i (length s) s)) ≡ stopped (number_of q) k) → CallsRead s at n (Err (refused_at q k)) t ops'
    stops ops' q k f = record { known = λ d z. err-ok z; entries = λ d z. err-ok z; says = λ limits est l b m h w. sym (on.says limits est l b m h w ∙ f limits est l b m h w) }

    pub calls-full : c ≡ 512 → CallsRead s at n (Err (refused_at TooManyCalls (n + c))) t ops
    calls-full e = stops ops TooManyCalls (n + c) (λ limits est l b m h w. call-full limits est l b m h (calls_of ops c t) w (n + c) s (length s) i lt (omega arith) (omega (arith, on.count)))

    module _ (e : ℕ) (found : FirstAt s i (length s) 10 e) (room : c < 512) where
      pub calls-unended : e ≡ length s → CallsRead s at n (Err (refused_at BadlyWritten (n + c))) t ops
      calls-unended x = stops ops BadlyWritten (n + c) (λ limits est l b m h w. unended limits s (length s) i e (n + c) lt (omega arith) found (reading (book est l b h m (calls_of ops c t))) (stopped 2 (n + c)) x (call-unended limits est l b m h (calls_of ops c t) w (n + c) (omega (arith, on.count))))

      module _ (more : e < length s) where
        -- where `call_line` answered r
        module _ (r : Option Ask) (ops' : List ℕ) (read : CallRead (fields (slice i e s)) e used r ops ops') where
          pub calls-bad : r ≡ None → CallsRead s at n (Err (refused_at BadlyWritten (n + c))) t ops'
          calls-bad is =
              let x : nothing ≡ asked (fields (slice i e s)) = subst (λ (y : Option Ask). answered (fields (slice i e s)) e used y ops') is read.says in
              stops ops' BadlyWritten (n + c) (λ limits est l b m h w. turn-stop limits s (length s) i e (n + c) lt (omega arith) found (reading (book est l b h m (calls_of ops c t))) 2 (n + c) more (call-bad limits est l b m h (calls_of ops c t) w (n + c) (slice i e s) (omega (arith, on.count)) x))

          module _ (y : Ask) (is : r ≡ Some y) where
            abbrev k : ℕ
            k = y.letter

            abbrev a : ℕ
            a = y.first

            abbrev b : ℕ
            b = y.second

            abbrev u : ℕ
            u = y.used

            x : Asking (fields (slice i e s)) e used k a b u ops'
            x = subst (λ (y : Option Ask). answered (fields (slice i e s)) e used y ops') is read.says

            abbrev put : List ℕ
            put = set (set (set t (3 * c) k) (3 * c + 1) a) (3 * c + 2) b

            calls-one : calls_of ops' (c + 1) put ≡ calls_of ops c t ++ (x.call ∷ [])
            calls-one =
                calls-put t c k a b (omega (arith, on.wide)) ops'
                ∙ ap (λ (y : Asked). calls_of ops' c t ++ listed y) x.is
                ∙ ap (λ (cs : List Request). cs ++ (x.call ∷ [])) (same-calls used ops ops' read.keep c t on.entries)

            pub calls-on : OnCalls s at n t₀ ops₀ put ops' (e + 1) (c + 1) u
            calls-on = record {
              i-le = omega arith;
              short = on.short;
              c-le = omega arith;
              n-le = on.n-le;
              wide = simp length-set on.wide;
              same = simp length-set on.same;
              ops-wide = omega (arith, read.len, on.ops-wide);
              ops-same = read.len ∙ on.ops-same;
              room = omega (arith, x.room);
              entries = entries-put t c k a b (omega (arith, on.wide)) u ∙ ap (λ (y : Bool). y && is_entry u k a b) (entries-more used u c t x.more on.entries) ∙ x.entry;
              count = ap length calls-one ∙ length-append (calls_of ops c t) (x.call ∷ []) ∙ ap (λ (y : ℕ). y + 1) on.count;
              says = λ limits est l q m h w.
                  let z : n + (c + 1) ≡ n + c + 1 = omega arith in
                  on.says limits est l q m h w
                  ∙ turn limits s (length s) i e (n + c) lt (omega arith) found (reading (book est l q h m (calls_of ops c t))) more
                  ∙ ap (λ (r : Reading). lines limits (n + c + 1) r (parts 10 (slice (e + 1) (length s) s))) (call-more limits est l q m h (calls_of ops c t) w (n + c) (slice i e s) x.call (omega (arith, on.count)) (sym x.says))
                  ∙ rw (z, calls-one);
            }
