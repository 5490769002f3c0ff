-- A catalogue's bytes and a list of calls apart from each other, in memory that is long enough: the tests of a list, and what is left, are
-- model's. Rests on sale and model's ListEntry. Assumes nothing.
use Rattle.std.specs.Prelude.{ℕ, zero, suc, ◌+◌, ◌*◌, ◌/◌, ◌%◌, ◌<◌, ◌≤◌, Bool, not, ◌&&◌, ◌||◌, List, [], ◌∷◌, eqb, leb, ltb, length, get_or, replicate, ℤ}
use Rattle.std.proofs.Math.Decide.{ℕ_discrete}
use Rattle.std.proofs.Common.{add-one, arith, ◌∙◌, eq-eqb, ne_eqb, lt-ltb, le-ltb, ltb-false, le-leb}
use Rattle.std.proofs.Math.Path.{◌≡◌, refl, sym, ap, subst}
use Rattle.std.proofs.Math.Bool.{true, false, cond}
use Rattle.std.proofs.lemmas.Bool.{lt-leb, not-true, not-false}
use Rattle.laws.specs.Choice.{and_right}
use Rattle.model.specs.Catalogue.{Limits}
use Rattle.model.specs.Measure.{Contraction}
use Rattle.model.specs.Machine.{Move}
use Rattle.model.specs.Grammar.{Reading, parse, letter_n}
use Rattle.model.specs.Report.{digits, row}
use Rattle.model.specs.Engine.{outcome}
use Rattle.model.specs.Memory.{Tables as Lent}
use Rattle.model.specs.Lent.{Lists, lent, memory, Two}
use Rattle.model.specs.Demand.{Standing, standing}
use Rattle.model.specs.Promises.{Demand3}
use Rattle.model.specs.ListEntry.{is_letter, is_entry, entries_to, list_refusal, list_calls, Returned, returned, Idle, ListWorked}
use Rattle.loader.specs.declared.Loaded.{Loaded}
use Rattle.std.specs.Prelude.{Result, Ok, Err}
use Rattle.refusal.specs.declared.Refused.{Refused}
use Rattle.refusal.specs.Number.{number_of}
use Rattle.loader.specs.Tables.{graph, seen, Loads}
use Rattle.fields.specs.Wrote.{Wrote}
use Rattle.operations.specs.Pairs.{Lengthened, long-pairs, zero-past, zero-new}
use Rattle.reader.proofs.CallTable.{entries-known}
use Rattle.call_list.specs.Course.{Listed as ListedCalls}
use Rattle.sale.specs.Sale.{Sold}
use Rattle.sale.specs.Reported.{written_all}

-- ---- the arms of the code's tests
pub letter-kind : (a b : Bool) {r r' : Bool} → r' ≡ a → r' ≡ true → r ≡ true → r ≡ (a || b)
letter-kind a b e q q' = q' ∙ sym (ap (λ (t : Bool). t || b) (sym e ∙ q))

pub letter-rest : (a b : Bool) {r r' : Bool} → r' ≡ a → r' ≡ false → r ≡ b → r ≡ (a || b)
letter-rest a b e q e' = e' ∙ sym (ap (λ (t : Bool). t || b) (sym e ∙ q))

-- the form of an entry
pub entry-letter : (n letter x y : ℕ) {r : Bool} → r ≡ is_letter letter → not r ≡ true → false ≡ is_entry n letter x y
unfolding is_entry
entry-letter n letter x y e q = sym (ap (λ (b : Bool). b && (not (eqb letter letter_n) || (leb 2 y && leb (x + y) n))) (sym e ∙ not-true _ q))

pub entry_other : (n letter x y : ℕ) {r : Bool} → r ≡ is_letter letter → not r ≡ false → (letter ≡ letter_n → ⊥) → true ≡ is_entry n letter x y
unfolding is_entry
entry_other n letter x y e q ne =
    sym (ap (λ (b : Bool). b && (not (eqb letter letter_n) || (leb 2 y && leb (x + y) n))) (sym e ∙ not-false _ q) ∙ ap (λ (b : Bool). not b || (leb 2 y && leb (x + y) n)) (ne_eqb letter letter_n ne))

pub entry-late : (n letter x y : ℕ) {r r' : Bool} → r ≡ is_letter letter → not r ≡ false → letter ≡ letter_n → r' ≡ (leb 2 y && leb (x + y) n) → r' ≡ is_entry n letter x y
unfolding is_entry
entry-late n letter x y e q is s =
    s ∙ sym (ap (λ (b : Bool). b && (not (eqb letter letter_n) || (leb 2 y && leb (x + y) n))) (sym e ∙ not-false _ q) ∙ ap (λ (b : Bool). not b || (leb 2 y && leb (x + y) n)) (eq-eqb letter letter_n is))

pub stretch-short : (y : ℕ) (b : Bool) → y < 2 → false ≡ (leb 2 y && b)
stretch-short y b l = sym (ap (λ (a : Bool). a && b) (lt-leb 2 y l))

pub stretch-rest : (y : ℕ) (b : Bool) → 2 ≤ y → b ≡ (leb 2 y && b)
stretch-rest y b l = sym (ap (λ (a : Bool). a && b) (le-leb 2 y l))

-- an entry of the table
abbrev entry_at : ℕ → ℕ → List ℕ → Bool
entry_at n i l = is_entry n (get_or l (3 * i) 0) (get_or l (3 * i + 1) 0) (get_or l (3 * i + 2) 0)

pub entries_none : (n : ℕ) (l : List ℕ) → entries_to n 0 l ≡ true
unfolding entries_to
entries_none n l = refl

pub entries-more : (n i : ℕ) (l : List ℕ) {r : Bool} → entries_to n i l ≡ true → r ≡ entry_at n i l → r ≡ true → entries_to n (i + 1) l ≡ true
unfolding entries_to
entries-more n i l q e t = rw (add-one i) (ap (λ (b : Bool). b && entry_at n i l) q ∙ sym e ∙ t)

pub entries-all : (n i c : ℕ) (l : List ℕ) → i ≡ c → entries_to n i l ≡ true → true ≡ entries_to n c l
entries-all n i c l e q = sym q ∙ ap (λ (j : ℕ). entries_to n j l) e

pub entries-no : (n c i : ℕ) (l : List ℕ) {r : Bool} → i < c → r ≡ entry_at n i l → r ≡ false → false ≡ entries_to n c l
unfolding entries_to
entries-no n zero i l lt e q = absurd (omega arith)
entries-no n (suc c) i l {r} lt e q = go (ℕ_discrete i c) (λ x. entries-no n c i l x e q)
  where
    and_none : (b : Bool) → false ≡ (b && false)
    and_none true = refl
    and_none false = refl

    go : Dec (i ≡ c) → (i < c → false ≡ entries_to n c l) → false ≡ (entries_to n c l && entry_at n c l)
    go (yes z) before = and_none (entries_to n c l) ∙ ap (λ (b : Bool). entries_to n c l && b) (sym q ∙ e ∙ ap (λ (j : ℕ). entry_at n j l) z)
    go (no z) before = ap (λ (b : Bool). b && entry_at n c l) (before (omega arith))

module _ (l ops : List ℕ) where
  pub list-long : 1536 < length l → 7 ≡ list_refusal l ops
  unfolding list_refusal
  list-long q = sym (ap (λ (b : Bool). cond b 7 (cond (eqb (length l % 3) 0 && entries_to (length ops) (length l / 3) l) 0 2)) (lt-ltb 1536 (length l) q))

  short-list : length l ≤ 1536 → list_refusal l ops ≡ cond (eqb (length l % 3) 0 && entries_to (length ops) (length l / 3) l) 0 2
  unfolding list_refusal
  short-list q = ap (λ (b : Bool). cond b 7 (cond (eqb (length l % 3) 0 && entries_to (length ops) (length l / 3) l) 0 2)) (le-ltb 1536 (length l) q)

  pub list-odd : length l ≤ 1536 → (length l % 3 ≡ 0 → ⊥) → 2 ≡ list_refusal l ops
  list-odd q z = sym (short-list q ∙ ap (λ (b : Bool). cond (b && entries_to (length ops) (length l / 3) l) 0 2) (ne_eqb (length l % 3) 0 z))

  module _ (q : length l ≤ 1536) (z : length l % 3 ≡ 0) {r : Bool} (e : r ≡ entries_to (length ops) (length l / 3) l) where
    whole-list : list_refusal l ops ≡ cond r 0 2
    whole-list = short-list q ∙ ap (λ (b : Bool). cond (b && entries_to (length ops) (length l / 3) l) 0 2) (eq-eqb (length l % 3) 0 z) ∙ ap (λ (b : Bool). cond b 0 2) (sym e)

    pub list-strange : r ≡ false → 2 ≡ list_refusal l ops
    list-strange t = sym (whole-list ∙ ap (λ (b : Bool). cond b 0 2) t)

    pub list-good : r ≡ true → 0 ≡ list_refusal l ops
    list-good t = sym (whole-list ∙ ap (λ (b : Bool). cond b 0 2) t)

  -- a list that is not refused
  pub list-listed : list_refusal l ops ≡ 0 → ListedCalls l ops (length l / 3)
  unfolding list_refusal
  list-listed q = go (ltb 1536 (length l)) refl q
    where
      inner : (b : Bool) → ◌≡◌ {A = ℕ} (cond b 0 2) 0 → b ≡ true
      inner true e = refl
      inner false e = absurd (omega arith)

      go : (b : Bool) → ltb 1536 (length l) ≡ b → ◌≡◌ {A = ℕ} (cond b 7 (cond (eqb (length l % 3) 0 && entries_to (length ops) (length l / 3) l) 0 2)) 0 → ListedCalls l ops (length l / 3)
      go true e z = absurd (omega arith)
      go false e z =
          let le : length l ≤ 1536 = ltb-false 1536 (length l) e in
          let t = and_right (eqb (length l % 3) 0) _ (inner (eqb (length l % 3) 0 && entries_to (length ops) (length l / 3) l) z) in
          record { count-le = omega arith; known = entries-known ops (length l / 3) l t; entries = t; calls-fit = omega arith }

-- ---- what is left
-- nothing ran: the stack and the journal are as they are made
pub idle : {code bytes total : ℕ} {S J : Two} → S.len ≡ 0 → S.xs ≡ replicate 1024 0 → S.ys ≡ replicate 1024 0 → J.len ≡ 0 → J.xs ≡ replicate 1024 0 → J.ys ≡ replicate 1024 0 → total ≡ 0
    → Idle (returned code bytes total S J)
idle {S = S} {J = J} s sx sy j jx jy t = record { no_joins = s; no-moves = j; zero-total = t; stack-whole = zero-new {S = S} sx sy; journal-whole = zero-new {S = J} jx jy }

module _ (list operands out : List ℕ) (counts : List ℕ) (gains : List ℤ) (index visited : List ℕ) {limits : Limits} {file : List ℕ} {old new : Lists} {nw lo calls ops : List ℕ} {r : Result Loaded Refused} (l : Loads limits file r old new nw lo calls ops) where
  -- the catalogue is accepted; the stack and the journal are returned with zeros past their lengths
  pub list-worked : {a : Loaded} (e : r ≡ Ok a) {new' : Lent} {out' : List ℕ} {S S' J J' : Two} {n m draft total at : ℕ} → Sold limits (graph a.sizes new nw lo) (list_calls list operands) (lent old counts gains index visited) new' out out' S J n m draft total at
      → Lengthened S.len S.xs S'.xs × Lengthened S.len S.ys S'.ys × (S'.len ≡ S.len)
      → Lengthened J.len J.xs J'.xs × Lengthened J.len J.ys J'.ys × (J'.len ≡ J.len)
      → ListWorked limits (parse limits file) (list_calls list operands) (memory out (lent old counts gains index visited)) (memory out' new') (returned 0 at total S' J')
  list-worked {a} e {new'} {out'} {S} {S'} {J} {J'} {total = total} {at = at} s zs zj =
      let stack_same = sym (long-pairs {A = Contraction} (λ u v. record { into = u; gone = v }) {S = S} {S' = S'} zs.0 zs.1 zs.2) in
      let journal-same = sym (long-pairs {A = Move} (λ v b. record { vertex = v; from = b }) {S = J} {S' = J'} zj.0 zj.1 zj.2) in
      subst (λ (x : Reading). ListWorked limits x (list_calls list operands) (memory out (lent old counts gains index visited)) (memory out' new') (returned 0 at total S' J')) (ap (λ (x : Result Loaded Refused). seen l.estimated x new nw lo calls ops) (sym e) ∙ l.says)
      (record {
        code_is = refl;
        lines = s.lines;
        demand = subst (λ (x : Standing). Demand3 limits (graph a.sizes new nw lo) (list_calls list operands) (lent old counts gains index visited) x s.lines total) (λ k. standing new' (stack_same k) (journal-same k)) s.demand;
        output = written_all s.wrote;
        stack-whole = zero-past {S = S} {S' = S'} zs.0 zs.1 zs.2;
        journal-whole = zero-past {S = J} {S' = J'} zj.0 zj.1 zj.2;
      })

  -- it is refused
  pub list-down : {q : Refused} (e : r ≡ Err q) (new' : Lent) {out' : List ℕ} {x : Returned} → Idle x → x.code ≡ number_of q.refusal → Wrote out out' 0 (row "NO" (digits (number_of q.refusal) ∷ digits q.line ∷ [])) x.bytes
      → ListWorked limits (parse limits file) (list_calls list operands) (memory out (lent old counts gains index visited)) (memory out' new') x
  unfolding outcome
  list-down {q} e new' {out'} {x} i d w =
      subst (λ (y : Reading). ListWorked limits y (list_calls list operands) (memory out (lent old counts gains index visited)) (memory out' new') x) (ap (λ (y : Result Loaded Refused). seen l.estimated y new nw lo calls ops) (sym e) ∙ l.says)
      (record { code_is = d; output = written_all w; tables = tt }, i)
