-- The loaded catalogue as a hypergraph with a first partition, the limits of an entry, and the capacity. Assumes nothing.
use Rattle.std.specs.Prelude.{ℕ, ◌+◌, ◌-◌, ◌*◌, ◌/◌, ◌%◌, Bool, cond, ◌&&◌, List, eqb, leb, ltb, length, get_or}

-- the limits of a catalogue: how many lots, sessions, buyers and marks it may have
pub record Limits : Type 0 where
  pub vertex_limit : ℕ
  pub block_limit : ℕ
  pub net_limit : ℕ
  pub pin_limit : ℕ

-- "lots 1 to 1,024", "sessions 2 to 16", "buyers 0 to 1,024", "at most 8,192 marks in all"
abbrev pub main_limits : Limits
main_limits = record { vertex_limit = 1024; block_limit = 16; net_limit = 1024; pin_limit = 8192 }

-- the superfine desk's (M-102): "257 lots or 9 sessions are out of range"
abbrev pub fine_limits : Limits
fine_limits = record { vertex_limit = 256; block_limit = 8; net_limit = 1024; pin_limit = 8192 }

-- net: a buyer with its weight. pins: the lots marked with it, in the file's order
pub record Net : Type 0 where
  pub weight : ℕ
  pub pins : List ℕ

-- vertex: a lot. block: a session. imbalance: the slack in thousandths.
-- total_weight: W, the bales that the catalogue's lines announce, all together: in an estimate the lows (M-109). Withdrawn and late lots leave it (M-111).
-- lows, weights: the least and the most bales of the lots 1, 2, ..; in a sale that is no estimate both are the bales of its line. All but W goes by
-- the most, which are the loaded bales. draft: their sessions in the file; fixed: 1 for each lot that is kept, else 0 (M-104);
-- nets: the buyers 1, 2, ..
pub record Hypergraph : Type 0 where
  pub blocks : ℕ
  pub imbalance : ℕ
  pub total_weight : ℕ
  pub lows : List ℕ
  pub weights : List ℕ
  pub draft : List ℕ
  pub fixed : List ℕ
  pub nets : List Net

-- the number of lots
abbrev pub vertices : Hypergraph → ℕ
vertices h = length h.weights

-- a lot's bales, as loaded
abbrev pub loaded : Hypergraph → ℕ → ℕ
loaded h v = get_or h.weights (v - 1) 0

-- a lot's least bales
abbrev pub least : Hypergraph → ℕ → ℕ
least h v = get_or h.lows (v - 1) 0

-- a lot's session in the draft; 0 past the last lot
abbrev pub drafted : Hypergraph → ℕ → ℕ
drafted h v = get_or h.draft (v - 1) 0

-- 1 for a lot whose line ends in `,K`, else 0
abbrev pub fixed_entry : Hypergraph → ℕ → ℕ
fixed_entry h v = get_or h.fixed (v - 1) 0

-- the lot is in the sale: a lot of the file has at least 1 bale, and a withdrawn one has 0 (M-111)
abbrev pub in_sale : Hypergraph → ℕ → Bool
in_sale h v = ltb 0 (loaded h v)

-- the lot is known: a number is so from its first use for good
abbrev pub is_vertex : Hypergraph → ℕ → Bool
is_vertex h v = leb 1 v && leb v (vertices h)

-- the session is known
abbrev pub is_block : Hypergraph → ℕ → Bool
is_block h b = leb 1 b && leb b h.blocks

-- the buyer is known
abbrev pub is_net : Hypergraph → ℕ → Bool
is_net h e = leb 1 e && leb e (length h.nets)

-- ⌈W/k⌉
unfoldable pub average_weight : Hypergraph → ℕ
average_weight h = (h.total_weight + (h.blocks - 1)) / h.blocks

-- so many thousandths to the nearest whole number; an exact half goes to the even one
unfoldable pub nearest : ℕ → ℕ
nearest x =
    let whole : ℕ = x / 1000 in
    let rest : ℕ = x % 1000 in
    cond (ltb rest 500) whole (cond (eqb rest 500) (whole + whole % 2) (whole + 1))

-- cap: (1,000 + slack) × ⌈W/k⌉ / 1,000 to the nearest bale
unfoldable pub capacity : Hypergraph → ℕ
capacity h = nearest ((1000 + h.imbalance) * average_weight h)

-- ceiling: the most that each session may hold during a call. That of a sale by itself is its cap, for every session
abbrev pub capacities : Hypergraph → ℕ → ℕ
capacities h = λ t. capacity h
