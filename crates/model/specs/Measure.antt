-- Document 01, "Measure, cap and gain": representative, present pins, weights, pin counts, connectivity and gain. Rests on Catalogue. Assumes nothing.
use Rattle.std.specs.Prelude.{ℕ, zero, suc, ◌+◌, ◌-◌, ◌*◌, max, Bool, not, cond, ◌&&◌, List, [], ◌∷◌, eqb, leb, ltb, ℤ, pos, ◌-ℤ◌, length}
use Rattle.laws.specs.Sum.{sum_to, count_to, fold_to}
use Rattle.laws.specs.Fold.{sum_over, any}
use Rattle.model.specs.Catalogue.{Net, Hypergraph, vertices, loaded, in_sale, fixed_entry}

-- contraction: a join (u,v). `gone` is v, which left the board; `into` is u, which stands for it
pub record Contraction : Type 0 where
  pub into : ℕ
  pub gone : ℕ

-- the lot above: the one that v was joined into, and 0 for a lot under no other. The stack has its latest join first
unfoldable pub above : List Contraction → ℕ → ℕ
above [] v = 0
above (c ∷ cs) v = cond (eqb c.gone v) c.into (above cs v)

-- under no other lot
abbrev pub is_top : List Contraction → ℕ → Bool
is_top cs v = eqb (above cs v) 0

-- on the board: under no other lot, and in the sale (M-111)
abbrev pub on_board : Hypergraph → List Contraction → ℕ → Bool
on_board h cs v = is_top cs v && in_sale h v

-- stand, by a climb of at most `steps` joins
unfoldable pub climb : ℕ → List Contraction → ℕ → ℕ
climb zero cs v = v
climb (suc steps) cs v =
    let higher : ℕ = climb steps cs (above cs v) in
    cond (is_top cs v) v higher

-- representative: stand(lot). No climb is longer than the stack
unfoldable pub representative : List Contraction → ℕ → ℕ
representative cs v = climb (length cs) cs v

-- v is a present pin: in the buyer's present mark set { stand(lot) : lot marked in the file }
unfoldable pub pin : List Contraction → Net → ℕ → Bool
pin cs e v = any e.pins (λ x. eqb (representative cs x) v)

-- the catalogue and the stack of joins
module _ (h : Hypergraph) (cs : List Contraction) where
  -- a buyer's present marks, how many
  unfoldable pub size : Net → ℕ
  size e = count_to (vertices h) (λ v. pin cs e v)

  -- a board lot's bales: the loaded bales of all lots it stands for
  unfoldable pub weight : ℕ → ℕ
  weight u = sum_to (vertices h) (λ v. cond (eqb (representative cs v) u) (loaded h v) 0)

  -- kept (M-104): "a joined lot is kept while any lot it stands for is"
  unfoldable pub is_fixed : ℕ → Bool
  is_fixed u = ltb 0 (count_to (vertices h) (λ v. eqb (representative cs v) u && eqb (fixed_entry h v) 1))

  -- the lots that W and P, and the joining in A, do not pass over: those on the board that are not kept
  abbrev pub may_move : ℕ → Bool
  may_move v = on_board h cs v && not (is_fixed v)

  -- two board lots share a present mark set
  unfoldable pub adjacent : ℕ → ℕ → Bool
  adjacent u v = any h.nets (λ e. pin cs e u && pin cs e v)

-- the same, and the partition: the session of each board lot
module _ (h : Hypergraph) (cs : List Contraction) (block : ℕ → ℕ) where
  -- a session's bales: those of its board lots together (a withdrawn lot is in no session)
  unfoldable pub block_weight : ℕ → ℕ
  block_weight b = sum_to (vertices h) (λ u. cond (is_top cs u && eqb (block u) b) (weight h cs u) 0)

  -- the heaviest session's bales
  unfoldable pub heaviest : ℕ
  heaviest = fold_to h.blocks (λ most b. max most (block_weight b)) 0

  -- pin count: count(buyer, session)
  unfoldable pub pin_count : Net → ℕ → ℕ
  pin_count e b = count_to (vertices h) (λ v. pin cs e v && eqb (block v) b)

  -- connectivity: visited sessions, how many
  unfoldable pub connectivity : Net → ℕ
  connectivity e = count_to h.blocks (λ b. ltb 0 (pin_count e b))

  -- connectivity metric: total, the sum over buyers of weight × (visited − 1)
  unfoldable pub metric : ℕ
  metric = sum_over h.nets (λ e. e.weight * (connectivity e - 1))

  -- the weights freed: those of v's buyers with count(v's own session) = 1
  unfoldable pub freed : ℕ → ℕ
  freed v = sum_over h.nets (λ e. cond (pin cs e v && eqb (pin_count e (block v)) 1) e.weight 0)

  -- the weights newly drawn in: those of v's buyers with count(t) = 0
  unfoldable pub drawn : ℕ → ℕ → ℕ
  drawn v t = sum_over h.nets (λ e. cond (pin cs e v && eqb (pin_count e t) 0) e.weight 0)

  -- gain(lot, session): the weights freed less the weights newly drawn in, and 0 at the lot's own session
  unfoldable pub gain : ℕ → ℕ → ℤ
  gain v t = cond (eqb (block v) t) (pos 0) (pos (freed v) -ℤ pos (drawn v t))

-- there is space for the lot in the session, under the session's ceiling
unfoldable pub has_room : Hypergraph → (ℕ → ℕ) → List Contraction → (ℕ → ℕ) → ℕ → ℕ → Bool
has_room h ceiling cs block v t = leb (block_weight h cs block t + weight h cs v) (ceiling t)
