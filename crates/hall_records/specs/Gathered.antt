-- The places of four sets of records in a row: at which of them lots stand, the record that a hall's columns make there, and a list of records once all of these
-- are written. Rests on Placed and Lent. Assumes nothing.
use Rattle.std.specs.Prelude.{ℕ, suc, ◌+◌, ◌*◌, ◌-◌, ◌/◌, ◌%◌, ◌<◌, ◌≤◌, min, ◌≡◌, refl, Bool, true, false, cond, List, [], map, ltb, length, get_or, drop, set}
use Rattle.std.proofs.Common.{lt_irrefl, ne_of_lt, not-suc-le-zero, arith, sym, ap, subst, ◌∙◌, true≢false, ltb-true, ltb-false, lt-ltb, le-ltb, length-take, length-drop, get_or-take, get_or-drop, get_or-set_same, get_or-set_other, ext_get_or}
use Rattle.std.proofs.Math.Decide.{ℕ_discrete}
use Rattle.std.proofs.lemmas.List.{length-map}
use Rattle.std.proofs.Math.ListN.{get_or-map}
use Rattle.laws.specs.Choice.{one}
use Rattle.model.specs.Memory.{Column}
use Rattle.records.specs.declared.Lot.{Lot}
use Rattle.records.specs.Fields.{blank}
use Rattle.hall_records.specs.Placed.{placed, length-placed, placed-there, placed-elsewhere}
use Rattle.model.specs.HallLent.{set_of_lots}

-- ---- one set of a list of records
pub set-length : (c : ℕ) (lots : List Lot) → length (set_of_lots c lots) ≡ min 1024 (length lots - 1024 * (c - 1))
unfolding set_of_lots
set-length c lots = length-take 1024 (drop (1024 * (c - 1)) lots) ∙ ap (λ (n : ℕ). min 1024 n) (length-drop (1024 * (c - 1)) lots)

pub set-entry : (c i : ℕ) (lots : List Lot) → i < 1024 → get_or (set_of_lots c lots) i blank ≡ get_or lots (1024 * (c - 1) + i) blank
unfolding set_of_lots
set-entry c i lots l = get_or-take 1024 (drop (1024 * (c - 1)) lots) i blank l ∙ get_or-drop (1024 * (c - 1)) lots i blank

-- a field of it as a table
pub field-entry : (f : Lot → ℕ) (c i : ℕ) (lots : List Lot) → f blank ≡ 0 → i < 1024 → get_or (map f (set_of_lots c lots)) i 0 ≡ f (get_or lots (1024 * (c - 1) + i) blank)
field-entry f c i lots z l = ap (get_or (map f (set_of_lots c lots)) i) (sym z) ∙ get_or-map f (set_of_lots c lots) i blank ∙ ap f (set-entry c i lots l)

-- ---- places
-- a lot stands at a place where its number, from 0, in the place's set is below the number of the set's lots
abbrev pub in_use : List ℕ → ℕ → Bool
in_use counts k = ltb (k % 1024) (get_or counts (k / 1024) 0)

-- the record that the columns of a hall make there
abbrev pub lot_at : (weights blocks aboves fixed : List (List ℕ)) → ℕ → Lot
lot_at weights blocks aboves fixed k = record {
  bales = get_or (get_or weights (k / 1024) []) (k % 1024) 0;
  session = get_or (get_or blocks (k / 1024) []) (k % 1024) 0;
  above = get_or (get_or aboves (k / 1024) []) (k % 1024) 0;
  kept = get_or (get_or fixed (k / 1024) []) (k % 1024) 0;
}

-- place k is the one of some turn before n
pub record Comes (places : List ℕ) (n k : ℕ) : Type 0 where
  pub turn : ℕ
  pub before : turn < n
  pub there : get_or places turn 0 ≡ k

-- the first n records of a list with their places: those of all places below `end` where a lot stands, and no others
pub record Gathered (counts : List ℕ) (weights blocks aboves fixed : List (List ℕ)) (end n : ℕ) (places : List ℕ) (new : List Lot) : Type 0 where
  pub few : n ≤ end
  pub below : (j : ℕ) → j < n → get_or places j 0 < end
  pub used : (j : ℕ) → j < n → in_use counts (get_or places j 0) ≡ true
  pub records : (j : ℕ) → j < n → get_or new j blank ≡ lot_at weights blocks aboves fixed (get_or places j 0)
  pub all : (k : ℕ) → k < end → in_use counts k ≡ true → Comes places n k

-- ---- the records gathered place by place
module _ (counts : List ℕ) (weights blocks aboves fixed : List (List ℕ)) where
  pub gathered_none : (places : List ℕ) (new : List Lot) → Gathered counts weights blocks aboves fixed 0 0 places new
  gathered_none places new = record {
    few = omega arith;
    below = λ j l. absurd (not-suc-le-zero l);
    used = λ j l. absurd (not-suc-le-zero l);
    records = λ j l. absurd (not-suc-le-zero l);
    all = λ k l. absurd (not-suc-le-zero l);
  }

  -- one more place: its record is put behind the last, and counts where a lot stands there
  one_more : (k n : ℕ) (places : List ℕ) (new : List Lot) → n < length places → n < length new → Gathered counts weights blocks aboves fixed k n places new
      → Gathered counts weights blocks aboves fixed (k + 1) (n + one (in_use counts k)) (set places n k) (set new n (lot_at weights blocks aboves fixed k))
  one_more k n places new in-places in-new g = go (in_use counts k) refl
    where
      lot : Lot
      lot = lot_at weights blocks aboves fixed k

      -- the places before the last are as they were
      old-place : (j : ℕ) → j < n → get_or (set places n k) j 0 ≡ get_or places j 0
      old-place j l = get_or-set_other places n j k 0 (ne_of_lt l)

      last-place : get_or (set places n k) n 0 ≡ k
      last-place = get_or-set_same places n k 0 in-places

      old-record : (j : ℕ) → j < n → get_or (set new n lot) j blank ≡ lot_at weights blocks aboves fixed (get_or (set places n k) j 0)
      old-record j l = get_or-set_other new n j lot blank (ne_of_lt l) ∙ g.records j l ∙ sym (ap (lot_at weights blocks aboves fixed) (old-place j l))

      go : (b : Bool) → in_use counts k ≡ b → Gathered counts weights blocks aboves fixed (k + 1) (n + one b) (set places n k) (set new n lot)
      go false q = record {
        few = omega (arith, g.few);
        below = λ j l. let u : j < n = omega (arith, l) in omega (arith, old-place j u, g.below j u);
        used = λ j l. let u : j < n = omega (arith, l) in ap (in_use counts) (old-place j u) ∙ g.used j u;
        records = λ j l. old-record j (omega (arith, l));
        all = λ x l p. let c = g.all x (others x l p (ℕ_discrete x k)) p in record { turn = c.turn; before = omega (arith, c.before); there = old-place c.turn c.before ∙ c.there };
      }
        where
          others : (x : ℕ) → x < k + 1 → in_use counts x ≡ true → Dec (x ≡ k) → x < k
          others x l p (yes e) = absurd (true≢false (sym p ∙ ap (in_use counts) e ∙ q))
          others x l p (no e) = omega (arith, l, e)
      go true q = record {
        few = omega (arith, g.few);
        below = λ j l. below j l (ℕ_discrete j n);
        used = λ j l. used j l (ℕ_discrete j n);
        records = λ j l. record_of j l (ℕ_discrete j n);
        all = λ x l p. all x l p (ℕ_discrete x k);
      }
        where
          below : (j : ℕ) → j < n + 1 → Dec (j ≡ n) → get_or (set places n k) j 0 < k + 1
          below j l (yes e) = omega (arith, ap (λ (i : ℕ). get_or (set places n k) i 0) e, last-place)
          below j l (no e) = let u : j < n = omega (arith, l, e) in omega (arith, old-place j u, g.below j u)

          used : (j : ℕ) → j < n + 1 → Dec (j ≡ n) → in_use counts (get_or (set places n k) j 0) ≡ true
          used j l (yes e) = ap (in_use counts) (ap (λ (i : ℕ). get_or (set places n k) i 0) e ∙ last-place) ∙ q
          used j l (no e) = let u : j < n = omega (arith, l, e) in ap (in_use counts) (old-place j u) ∙ g.used j u

          record_of : (j : ℕ) → j < n + 1 → Dec (j ≡ n) → get_or (set new n lot) j blank ≡ lot_at weights blocks aboves fixed (get_or (set places n k) j 0)
          record_of j l (yes e) =
              ap (λ (i : ℕ). get_or (set new n lot) i blank) e
              ∙ get_or-set_same new n lot blank in-new
              ∙ sym (ap (lot_at weights blocks aboves fixed) (ap (λ (i : ℕ). get_or (set places n k) i 0) e ∙ last-place))
          record_of j l (no e) = old-record j (omega (arith, l, e))

          all : (x : ℕ) → x < k + 1 → in_use counts x ≡ true → Dec (x ≡ k) → Comes (set places n k) (n + 1) x
          all x l p (yes e) = record { turn = n; before = omega arith; there = last-place ∙ sym e }
          all x l p (no e) = let c = g.all x (omega (arith, l, e)) p in record { turn = c.turn; before = omega (arith, c.before); there = old-place c.turn c.before ∙ c.there }

  pub gathered-more : (k n u : ℕ) (places : List ℕ) (new : List Lot) (lot : Lot) → u ≡ one (in_use counts k) → lot ≡ lot_at weights blocks aboves fixed k → n < length places → n < length new
      → Gathered counts weights blocks aboves fixed k n places new → Gathered counts weights blocks aboves fixed (k + 1) (n + u) (set places n k) (set new n lot)
  gathered-more k n u places new lot counts-as is-lot in-places in-new g =
      subst (λ (v : ℕ). Gathered counts weights blocks aboves fixed (k + 1) (n + v) (set places n k) (set new n lot)) (sym counts-as)
      (subst (λ (l : Lot). Gathered counts weights blocks aboves fixed (k + 1) (n + one (in_use counts k)) (set places n k) (set new n l)) (sym is-lot) (one_more k n places new in-places in-new g))

-- ---- the list once they are written
module _ {counts : List ℕ} {weights blocks aboves fixed : List (List ℕ)} {n : ℕ} {places : List ℕ} {new : List Lot} (g : Gathered counts weights blocks aboves fixed 4096 n places new) (old : List Lot) where
  pub used-place : 4096 ≤ length old → (k : ℕ) → k < 4096 → in_use counts k ≡ true → get_or (placed n places new old) k blank ≡ lot_at weights blocks aboves fixed k
  used-place long k l q = let c = g.all k l q in placed-there places new old k (lot_at weights blocks aboves fixed) n g.records (omega (arith, l, long)) c.turn c.before c.there

  pub unused-place : (k : ℕ) → in_use counts k ≡ false → get_or (placed n places new old) k blank ≡ get_or old k blank
  unused-place k q = placed-elsewhere places new old k n (λ j l e. true≢false (sym (g.used j l) ∙ sym (ap (in_use counts) e) ∙ q))

  pub past-place : (k : ℕ) → 4096 ≤ k → get_or (placed n places new old) k blank ≡ get_or old k blank
  past-place k l = placed-elsewhere places new old k n (λ j u e. absurd (lt_irrefl k (omega (arith, l, g.below j u, e))))

  -- a set without lots keeps what it held
  pub set-kept : (c : ℕ) → 1 ≤ c → (c ≤ 4 → get_or counts (c - 1) 0 ≡ 0) → set_of_lots c (placed n places new old) ≡ set_of_lots c old
  set-kept c l z =
      ext_get_or blank (set_of_lots c (placed n places new old)) (set_of_lots c old)
      (set-length c (placed n places new old) ∙ ap (λ (m : ℕ). min 1024 (m - 1024 * (c - 1))) (length-placed n places new old) ∙ sym (set-length c old))
      (λ i u. let v : i < 1024 = omega (arith, u, set-length c (placed n places new old)) in set-entry c i (placed n places new old) v ∙ go i v (ltb c 5) refl ∙ sym (set-entry c i old v))
    where
      go : (i : ℕ) → i < 1024 → (b : Bool) → ltb c 5 ≡ b → get_or (placed n places new old) (1024 * (c - 1) + i) blank ≡ get_or old (1024 * (c - 1) + i) blank
      go i v true q =
          let k : ℕ = 1024 * (c - 1) + i in
          let row : k / 1024 ≡ c - 1 = omega (arith, v) in
          unused-place k (le-ltb (k % 1024) (get_or counts (k / 1024) 0) (omega (arith, ap (λ (d : ℕ). get_or counts d 0) row, z (omega (arith, ltb-true c 5 q)))))
      go i v false q = past-place (1024 * (c - 1) + i) (omega (arith, ltb-false c 5 q))

  -- where a column of a set has its m values, whatever it held before, the same field of the set's records has them
  pub set-column : 4096 ≤ length old → (f : Lot → ℕ) → f blank ≡ 0 → (table : List (List ℕ)) → ((k : ℕ) → f (lot_at weights blocks aboves fixed k) ≡ get_or (get_or table (k / 1024) []) (k % 1024) 0)
      → (c m : ℕ) (value : ℕ → ℕ) (before : List ℕ) → 1 ≤ c → c ≤ 4 → get_or counts (c - 1) 0 ≡ m → length before ≡ 1024
      → Column m value before (get_or table (c - 1) []) → Column m value (map f (set_of_lots c old)) (map f (set_of_lots c (placed n places new old)))
  set-column long f z table same c m value before l h e len col = record {
    as_long = length-map (set_of_lots c after) f ∙ set-length c after ∙ ap (λ (k : ℕ). min 1024 (k - 1024 * (c - 1))) (length-placed n places new old) ∙ sym (set-length c old) ∙ sym (length-map (set_of_lots c old) f);
    entries = λ i u. let v : i < 1024 = omega (arith, u, length-map (set_of_lots c old) f, set-length c old) in field-entry f c i after z v ∙ go i v (ltb i m) refl ∙ ap (cond (ltb i m) (value (suc i))) (sym (field-entry f c i old z v));
  }
    where
      after : List Lot
      after = placed n places new old

      go : (i : ℕ) → i < 1024 → (b : Bool) → ltb i m ≡ b → f (get_or after (1024 * (c - 1) + i) blank) ≡ cond b (value (suc i)) (f (get_or old (1024 * (c - 1) + i) blank))
      go i v true q =
          let k : ℕ = 1024 * (c - 1) + i in
          let row : k / 1024 ≡ c - 1 = omega (arith, v) in
          let at : k % 1024 ≡ i = omega (arith, v) in
          ap f (used-place long k (omega (arith, v, l, h)) (lt-ltb (k % 1024) (get_or counts (k / 1024) 0) (omega (arith, at, ap (λ (d : ℕ). get_or counts d 0) row, e, ltb-true i m q))))
          ∙ same k
          ∙ ap (λ (d : ℕ). get_or (get_or table d []) (k % 1024) 0) row
          ∙ ap (λ (j : ℕ). get_or (get_or table (c - 1) []) j 0) at
          ∙ col.entries i (omega (arith, v, len))
          ∙ ap (λ (b : Bool). cond b (value (suc i)) (get_or before i 0)) q
      go i v false q =
          let k : ℕ = 1024 * (c - 1) + i in
          let row : k / 1024 ≡ c - 1 = omega (arith, v) in
          let at : k % 1024 ≡ i = omega (arith, v) in
          ap f (unused-place k (le-ltb (k % 1024) (get_or counts (k / 1024) 0) (omega (arith, at, ap (λ (d : ℕ). get_or counts d 0) row, e, ltb-false i m q))))
