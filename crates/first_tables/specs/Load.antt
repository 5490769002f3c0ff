-- Prepared tables follow a fresh machine. Rests on Prepare and on levels' Running.
use Rattle.std.specs.Prelude.{ℕ, ◌+◌, ◌<◌, ◌≡◌, refl, List, [], length, get_or, ℤ}
use Rattle.std.proofs.Common.{ap, ◌∙◌}
use Rattle.laws.specs.Choice.{one}
use Rattle.laws.specs.Occurrence.{occ}
use Rattle.model.specs.Catalogue.{Hypergraph, vertices}
use Rattle.connectivity.specs.Listed.{has-is}
use Rattle.incidence.specs.On.{on}
use Rattle.laws.specs.Rising.{Rising}
use Rattle.pins.specs.Stack.{loaded_pin}
use Rattle.pins.specs.Board.{Room, board-loaded, room-kept}
use Rattle.levels.specs.Running.{running, Follows, net_at}
use Rattle.first_tables.specs.Prepare.{Prepared}

-- the loader's tables are those of the catalogue: each loaded pin stands once in its net's stretch, the lowest first
pub record Loaded (h : Hypergraph) (block : ℕ → ℕ) (weights pins blocks firsts sizes : List ℕ) (n m k : ℕ) : Type 0 where
  pub listed : (e : ℕ) → e < m → (x : ℕ) → occ pins (get_or firsts e 0) (get_or sizes e 0) x ≡ one (loaded_pin (net_at h e) x)
  pub rising : (e : ℕ) → e < m → Rising pins (get_or firsts e 0) (get_or sizes e 0)
  pub all-vertices : n ≡ vertices h
  pub all-nets : m ≡ length h.nets
  pub all_blocks : k ≡ h.blocks
  pub weighs : (e : ℕ) → e < m → get_or weights e 0 ≡ (net_at h e).weight
  pub sits : (y : ℕ) → y < n → get_or blocks y 0 ≡ block (y + 1)

pub prepared-follows : {h : Hypergraph} {block : ℕ → ℕ} {weights pins blocks firsts sizes bits bits' cs cs' vs vs' : List ℕ} {g g' : List ℤ} {n m k : ℕ} →
    Loaded h block weights pins blocks firsts sizes n m k → Room pins firsts sizes sizes bits n m → Prepared weights pins blocks firsts sizes n m k bits bits' cs cs' vs vs' g g' →
    Follows h [] block sizes (running cs' vs' g' pins sizes bits' blocks weights firsts) n m k
prepared-follows {h} {pins = pins} {firsts = firsts} {sizes = sizes} {bits' = bits'} {n = n} {m = m} w ro t = record {
  says = record {
    sound = tt;
    board = board-loaded (λ e. loaded_pin (net_at h e)) pins firsts sizes bits' n m w.listed w.rising marked;
    all-vertices = w.all-vertices;
    all-nets = w.all-nets;
    all_blocks = w.all_blocks;
    weighs = w.weighs;
    sits = w.sits;
  };
  world = t.world;
  room = room-kept refl refl t.bits-len ro;
}
  where
    marked : (x e : ℕ) → x < n → e < m → on bits' x e ≡ one (loaded_pin (net_at h e) (x + 1))
    marked x e lx le =
        t.marked x e lx le ∙ ap one (has-is pins (get_or firsts e 0) (get_or sizes e 0) x (loaded_pin (net_at h e) (x + 1)) (w.listed e le (x + 1)))
