-- What holds of every sheet of a valid sale (sheets-hold): each mark is printed exactly once and no other, in the session of its stand, by session and
-- then lot number, and the different sessions are as many as the visited ones. So it holds after every list of call lines. Rests on Rows and guarantees'
-- Reached. Assumes nothing.
use Prim.Native.Nat.{ℕ, zero, suc, ◌+◌, ◌-◌, ◌≤◌, ◌<◌}
use Rattle.std.proofs.Math.Decide.{ℕ_discrete, dec_lt}
use Rattle.std.proofs.Common.{arith, ◌∙◌, subst, true≢false, inr}
use Rattle.std.specs.Prelude.{◌≡◌, Bool, ◌&&◌, ◌⊎◌, ltb, length, get_or}
use Rattle.std.proofs.Math.Path.{refl, sym, ap}
use Rattle.std.proofs.Math.Bool.{true, false, cond}
use mathlib.Core.List.{List, [], ◌∷◌, ◌++◌}
use Rattle.std.proofs.Math.Logic.{inl}
use borrow.Author.Tests.{eq-eqb, ne_eqb, eqb-true}
use Rattle.std.proofs.Math.Dec.{eqb}
use Rattle.laws.specs.Choice.{one, and_left, and_right}
use Rattle.laws.specs.Fold.{sum_over, any, any_at, All, all-get, all_map}
use Rattle.laws.specs.Sum.{sum_to, sum_to-nil, sum_to-ext, sum_to-change, sum_to-swap, count_to, fold_to}
use Rattle.model.specs.Catalogue.{Limits, Net, Hypergraph, vertices, in_sale}
use Rattle.model.specs.Measure.{on_board, representative, pin, size, pin_count, connectivity}
use Rattle.model.specs.Machine.{State}
use Rattle.model.specs.Sale.{Sale}
use Rattle.model.specs.Memory.{no_net, net}
use Rattle.model.specs.Sheets.{At, is_marked, stands_in, ats_in, ats, times_printed, different, Before, InOrder, SheetHolds, SheetsHold}
use Rattle.guarantees.specs.Board.{board-is}
use Rattle.guarantees.specs.Climbs.{representative-on}
use Rattle.guarantees.specs.Clumps.{Within, representative-in, representative-sale, visited-any}
use Rattle.guarantees.specs.Calls.{Legal}
use Rattle.guarantees.specs.Splits.{pin-none}
use Rattle.guarantees.specs.Stretches.{size-le}
use Rattle.guarantees.specs.Reached.{Valid}
use Rattle.sheet_guarantees.specs.Rows.{kept, kept-all, kept-sum, joined, joined-all, joined-sum, all_append, order-append, sum_ones, sum-at, any-yes, any_sum, different-is}

module _ (h : Hypergraph) (s : State) (k : Legal h s) (e : Net) (w : Within (vertices h) e) (there : All e.pins (λ x. in_sale h x ≡ true)) where
  -- ---- a marked lot
  marked-in : (v : ℕ) → is_marked e v ≡ true → (1 ≤ v) × (v ≤ vertices h) × (in_sale h v ≡ true)
  marked-in v q =
      let i = any_at e.pins 0 (λ x. eqb x v) q in
      let same : get_or e.pins i.0 0 ≡ v = eqb-true _ _ i.2 in
      let r = all-get e.pins _ 0 w i.0 i.1 in
      (omega (arith, same, r.0), omega (arith, same, r.1), ap (in_sale h) (sym same) ∙ all-get e.pins _ 0 there i.0 i.1)

  pub stand-in : (v : ℕ) → is_marked e v ≡ true → (1 ≤ stands_in h s v) × (stands_in h s v ≤ h.blocks)
  stand-in v q =
      let m = marked-in v q in
      let r = representative-in h s.stack k.sound k.inside v m.0 m.1 in
      (k.placed (representative s.stack v) r.0 r.1).board
      (board-is h s.stack (representative s.stack v) (representative-on s.stack k.sound v) (representative-sale h s.stack k.sound k.inside v m.2))

  -- ---- each line
  abbrev pub Told : At → Type 0
  Told x = (is_marked e x.lot ≡ true) × (x.session ≡ stands_in h s x.lot) × (x.lot ≤ vertices h)

  pub ats-told : All (ats h s e) Told
  unfolding ats ats_in
  ats-told = joined-all (ats_in h s e) Told h.blocks (λ t _ _. kept-all (λ v. is_marked e v && eqb (stands_in h s v) t) (λ v. record { session = t; lot = v }) Told (vertices h)
      (λ v l u q. (and_left (is_marked e v) _ q, sym (eqb-true (stands_in h s v) t (and_right (is_marked e v) _ q)), u)))

  -- ---- each mark once
  abbrev printed : ℕ → ℕ → ℕ → ℕ
  printed v t x = cond (is_marked e x && eqb (stands_in h s x) t) (one (eqb x v)) 0

  times-is : (v : ℕ) → times_printed (ats h s e) v ≡ sum_to h.blocks (λ t. sum_to (vertices h) (printed v t))
  unfolding times_printed ats ats_in
  times-is v = joined-sum (ats_in h s e) (λ x. one (eqb x.lot v)) h.blocks
      ∙ sum_to-ext h.blocks _ _ (λ t _ _. kept-sum (λ x. is_marked e x && eqb (stands_in h s x) t) (λ x. record { session = t; lot = x }) (λ x. one (eqb x.lot v)) (vertices h))

  -- over all sessions, a lot counts once
  over-sessions : (v x : ℕ) → sum_to h.blocks (λ t. printed v t x) ≡ cond (is_marked e x) (one (eqb x v)) 0
  over-sessions v x = go (is_marked e x) refl
    where
      go : (b : Bool) → is_marked e x ≡ b → sum_to h.blocks (λ t. cond (b && eqb (stands_in h s x) t) (one (eqb x v)) 0) ≡ cond b (one (eqb x v)) 0
      go true q = let r = stand-in x q in sum-at h.blocks (stands_in h s x) (one (eqb x v)) r.0 r.1
      go false q = sum_to-nil h.blocks _ (λ t _ _. refl)

  over-lots : (v : ℕ) → sum_to (vertices h) (λ x. cond (is_marked e x) (one (eqb x v)) 0) ≡ one (is_marked e v)
  over-lots v = go (is_marked e v) refl
    where
      away : (x : ℕ) → (x ≡ v → ⊥) → (b : Bool) → cond b (one (eqb x v)) 0 ≡ 0
      away x n true = ap one (ne_eqb x v n)
      away x n false = refl

      apart : (x : ℕ) → is_marked e v ≡ false → Dec (x ≡ v) → cond (is_marked e x) (one (eqb x v)) 0 ≡ 0
      apart x q (yes i) = ap (λ (b : Bool). cond b (one (eqb x v)) 0) (ap (is_marked e) i ∙ q)
      apart x q (no n) = away x n (is_marked e x)

      go : (b : Bool) → is_marked e v ≡ b → sum_to (vertices h) (λ x. cond (is_marked e x) (one (eqb x v)) 0) ≡ one b
      go false q = sum_to-nil (vertices h) _ (λ x _ _. apart x q (ℕ_discrete x v))
      go true q =
          let m = marked-in v q in
          omega (
            arith,
            sum_to-change (vertices h) v (λ x. cond (is_marked e x) (one (eqb x v)) 0) (λ x. 0) m.0 m.1 (λ x _ _ n. away x n (is_marked e x)),
            sum_to-nil (vertices h) (λ x. 0) (λ x _ _. refl),
            ap (λ (b : Bool). cond b (one (eqb v v)) 0) q,
            ap one (eq-eqb v v refl),
          )

  each-once : (v : ℕ) → times_printed (ats h s e) v ≡ one (is_marked e v)
  each-once v = times-is v ∙ sum_to-swap h.blocks (vertices h) (printed v) ∙ sum_to-ext (vertices h) _ _ (λ x _ _. over-sessions v x) ∙ over-lots v

  -- ---- order
  abbrev up_to : ℕ → ℕ → List At
  up_to t n = kept (λ v. is_marked e v && eqb (stands_in h s v) t) (λ v. record { session = t; lot = v }) n

  in-session : (t n : ℕ) → InOrder (up_to t n)
  unfolding fold_to
  in-session t zero = tt
  in-session t (suc n) = go (in-session t n) (is_marked e (suc n) && eqb (stands_in h s (suc n)) t)
    where
      go : InOrder (up_to t n) → (b : Bool) → InOrder (cond b (up_to t n ++ (record { session = t; lot = suc n } ∷ [])) (up_to t n))
      go o true = order-append (up_to t n) (record { session = t; lot = suc n } ∷ []) o (tt, tt)
          (kept-all (λ v. is_marked e v && eqb (stands_in h s v) t) (λ v. record { session = t; lot = v }) (λ x. All (record { session = t; lot = suc n } ∷ []) (Before x)) n (λ v l u q. (inr (refl, omega arith), tt)))
      go o false = o

  session-order : (t : ℕ) → InOrder (ats_in h s e t)
  unfolding ats_in
  session-order t = in-session t (vertices h)

  of-session : (t : ℕ) (P : At → Type 0) → ((v : ℕ) → P (record { session = t; lot = v })) → All (ats_in h s e t) P
  unfolding ats_in
  of-session t P f = kept-all (λ v. is_marked e v && eqb (stands_in h s v) t) (λ v. record { session = t; lot = v }) P (vertices h) (λ v _ _ _. f v)

  in-order-to : (n : ℕ) → InOrder (joined (ats_in h s e) n)
  unfolding fold_to
  in-order-to zero = tt
  in-order-to (suc n) = order-append (joined (ats_in h s e) n) (ats_in h s e (suc n)) (in-order-to n) (session-order (suc n))
      (joined-all (ats_in h s e) (λ x. All (ats_in h s e (suc n)) (Before x)) n (λ t l u. of-session t (λ x. All (ats_in h s e (suc n)) (Before x)) (λ v. of-session (suc n) (Before (record { session = t; lot = v })) (λ y. inl (omega arith)))))

  in_order : InOrder (ats h s e)
  unfolding ats
  in_order = in-order-to h.blocks

  -- ---- sessions
  abbrev no_at : At
  no_at = record { session = 0; lot = 0 }

  any-session : (t : ℕ) → any (ats h s e) (λ y. eqb y.session t) ≡ any e.pins (λ x. eqb (stands_in h s x) t)
  unfolding times_printed
  any-session t = go (any (ats h s e) (λ y. eqb y.session t)) refl (any e.pins (λ x. eqb (stands_in h s x) t)) refl
    where
      forth : any (ats h s e) (λ y. eqb y.session t) ≡ true → any e.pins (λ x. eqb (stands_in h s x) t) ≡ true
      forth q =
          let i = any_at (ats h s e) no_at (λ y. eqb y.session t) q in
          let x = all-get (ats h s e) Told no_at ats-told i.0 i.1 in
          let j = any_at e.pins 0 (λ z. eqb z (get_or (ats h s e) i.0 no_at).lot) x.0 in
          any-yes e.pins 0 (λ z. eqb (stands_in h s z) t) j.0 j.1 (eq-eqb _ _ (ap (stands_in h s) (eqb-true _ _ j.2) ∙ sym x.1 ∙ eqb-true _ _ i.2))

      printed-some : (v : ℕ) → is_marked e v ≡ true → any (ats h s e) (λ y. eqb y.lot v) ≡ true
      printed-some v q = go (any (ats h s e) (λ y. eqb y.lot v)) refl
        where
          go : (b : Bool) → any (ats h s e) (λ y. eqb y.lot v) ≡ b → b ≡ true
          go true r = refl
          go false r = absurd (omega (arith, any_sum (ats h s e) (λ y. eqb y.lot v) r, each-once v, ap one q))

      back : any e.pins (λ x. eqb (stands_in h s x) t) ≡ true → any (ats h s e) (λ y. eqb y.session t) ≡ true
      back q =
          let j = any_at e.pins 0 (λ x. eqb (stands_in h s x) t) q in
          let v : ℕ = get_or e.pins j.0 0 in
          let i = any_at (ats h s e) no_at (λ y. eqb y.lot v) (printed-some v (any-yes e.pins 0 (λ z. eqb z v) j.0 j.1 (eq-eqb v v refl))) in
          let x = all-get (ats h s e) Told no_at ats-told i.0 i.1 in
          any-yes (ats h s e) no_at (λ y. eqb y.session t) i.0 i.1 (eq-eqb _ _ (x.1 ∙ ap (stands_in h s) (eqb-true _ _ i.2) ∙ eqb-true _ _ j.2))

      go : (a : Bool) → any (ats h s e) (λ y. eqb y.session t) ≡ a → (b : Bool) → any e.pins (λ x. eqb (stands_in h s x) t) ≡ b → a ≡ b
      go true p true q = refl
      go false p false q = refl
      go true p false q = absurd (true≢false (sym (forth p) ∙ q))
      go false p true q = absurd (true≢false (sym (back q) ∙ p))

  as-visited : different (ats h s e) ≡ connectivity h s.stack s.block e
  unfolding connectivity
  as-visited =
      different-is h.blocks (ats h s e) (all_map (ats h s e) Told _ (λ x r. let i = stand-in x.lot r.0 in (omega (arith, r.1, i.0), omega (arith, r.1, i.1))) ats-told)
      ∙ sum_to-ext h.blocks _ _ (λ t _ _. ap one (any-session t ∙ sym (visited-any h s.stack s.block e (all_map e.pins _ _ (λ x r. representative-in h s.stack k.sound k.inside x r.0 r.1) w) t)))

  -- no more lines than marks
  lines_are : length (ats h s e) ≡ count_to (vertices h) (is_marked e)
  unfolding ats ats_in
  lines_are =
      sym (sum_ones (ats h s e))
      ∙ joined-sum (ats_in h s e) (λ x. 1) h.blocks
      ∙ sum_to-ext h.blocks _ _ (λ t _ _. kept-sum (λ x. is_marked e x && eqb (stands_in h s x) t) (λ x. record { session = t; lot = x }) (λ x. 1) (vertices h))
      ∙ sum_to-swap h.blocks (vertices h) (λ t x. cond (is_marked e x && eqb (stands_in h s x) t) 1 0)
      ∙ sum_to-ext (vertices h) _ _ (λ x _ _. over x (is_marked e x) refl)
    where
      over : (x : ℕ) (b : Bool) → is_marked e x ≡ b → sum_to h.blocks (λ t. cond (b && eqb (stands_in h s x) t) 1 0) ≡ one b
      over x true q = let r = stand-in x q in sum-at h.blocks (stands_in h s x) 1 r.0 r.1
      over x false q = sum_to-nil h.blocks _ (λ t _ _. refl)

  pub lines-le : length (ats h s e) ≤ length e.pins
  unfolding size
  lines-le = omega (arith, lines_are, size-le h [] e, sum_to-ext (vertices h) (λ v. one (pin [] e v)) (λ v. one (is_marked e v)) (λ v _ _. ap one (pin-none e v)))

  pub sheet-facts : ((v : ℕ) → times_printed (ats h s e) v ≡ one (is_marked e v)) × All (ats h s e) (λ x. in_sale h x.lot ≡ true) × All (ats h s e) (λ x. x.session ≡ stands_in h s x.lot)
      × InOrder (ats h s e) × (different (ats h s e) ≡ connectivity h s.stack s.block e)
  sheet-facts = (each-once, all_map (ats h s e) Told _ (λ x r. (marked-in x.lot r.0).2) ats-told, all_map (ats h s e) Told _ (λ x r. r.1) ats-told, in_order, as-visited)

-- every sheet of a valid sale
pub sheets-hold : (limits : Limits) (a : Sale) → Valid limits a → SheetsHold a
sheets-hold limits a k e l u =
    let g = k.ranges.loaded in
    let f = sheet-facts a.graph a.state k.held.legal (net a.graph e) (all-get a.graph.nets _ no_net g.nets-in (e - 1) (omega arith)) (all-get a.graph.nets _ no_net g.nets-sale (e - 1) (omega arith)) in
    record { each-once = f.0; in-sale = f.1; where-it-stands = f.2; in_order = f.3; as-visited = f.4 }
