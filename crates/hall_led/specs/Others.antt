-- What the other catalogues of a hall have of lots and marks, by where each stands. Rests on hall_rooms' Rooms. Assumes nothing.
use Rattle.std.specs.Prelude.{ℕ, ◌+◌, ◌-◌, ◌*◌, ◌<◌, ◌≤◌, ◌≡◌, List, [], get_or}
use Rattle.std.proofs.Common.{arith}
use Rattle.laws.specs.Sum.{sum, sum_step}
use Rattle.hall_rooms.specs.Rooms.{besides}
use Rattle.call_list.specs.declared.course.Course.{Course}

abbrev pub no_course : Course
no_course = record { stack = record { into = []; gone = []; len = 0 }; journal = record { vertices = []; blocks = []; len = 0 }; free = record { numbers = []; len = 0 }; fixedmarks = []; n = 0; marks = 0; total = 0; at = 0 }

-- the lots of a catalogue are the numbers known less the free ones
abbrev pub lots_at : List Course → ℕ → ℕ
lots_at cs d = (get_or cs d no_course).n - (get_or cs d no_course).free.len

abbrev pub marks_at : List Course → ℕ → ℕ
marks_at cs d = (get_or cs d no_course).marks

abbrev pub lots_beside : List Course → ℕ → ℕ → ℕ
lots_beside cs count c = sum count (λ d. besides c d (lots_at cs d))

abbrev pub marks_beside : List Course → ℕ → ℕ → ℕ
marks_beside cs count c = sum count (λ d. besides c d (marks_at cs d))

-- so few that no sum passes a word
abbrev pub Few : List Course → ℕ → Type 0
Few cs count = (d : ℕ) → d < count → ((get_or cs d no_course).n ≤ 1024) × ((get_or cs d no_course).marks ≤ 8192)

-- ---- the loops' sums
pub lots-more : (cs : List Course) (c d : ℕ) {all more : ℕ} → all ≡ lots_beside cs d c → more ≡ besides c d (lots_at cs d) → all + more ≡ lots_beside cs (d + 1) c
lots-more cs c d p q = omega (arith, p, q, sum_step d (λ i. besides c i (lots_at cs i)))

pub marks-more : (cs : List Course) (c d : ℕ) {all more : ℕ} → all ≡ marks_beside cs d c → more ≡ besides c d (marks_at cs d) → all + more ≡ marks_beside cs (d + 1) c
marks-more cs c d p q = omega (arith, p, q, sum_step d (λ i. besides c i (marks_at cs i)))
