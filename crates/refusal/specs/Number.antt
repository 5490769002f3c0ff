-- The number of each refusal, as reports and entries have it.
use Rattle.std.specs.Prelude.{ℕ, ◌<◌, ◌≡◌, refl, Result, Ok, Err, IsErrAnd}
use Rattle.std.proofs.Common.{lit<, arith, ap}
use Rattle.refusal.specs.declared.Refusal.{Refusal}
use Rattle.refusal.specs.declared.Refused.{Refused}
use Rattle.refusal.specs.declared.Refusal.TheVariants.{FileTooLong, BadlyWritten, OutOfRange, MarkedTwice, TooManyMarks, DraftAboveCap, TooManyCalls, MemoryTooShort, LowAboveHigh, DraftsAboveLimit, Unknown, OffTheBoard, SameVertex, OwnBlock, AcrossBlocks, AboveCap, NothingToUndo, ContractionStands, Fixed, NetNamedTwice, CatalogueFull, AboveHallLimit}

abbrev pub number_of : Refusal → ℕ
number_of FileTooLong = 1
number_of BadlyWritten = 2
number_of OutOfRange = 3
number_of MarkedTwice = 4
number_of TooManyMarks = 5
number_of DraftAboveCap = 6
number_of TooManyCalls = 7
number_of MemoryTooShort = 8
number_of Unknown = 9
number_of OffTheBoard = 10
number_of SameVertex = 11
number_of OwnBlock = 12
number_of AcrossBlocks = 13
number_of AboveCap = 14
number_of NothingToUndo = 15
number_of ContractionStands = 16
number_of Fixed = 20
number_of LowAboveHigh = 21
number_of NetNamedTwice = 22
number_of CatalogueFull = 23
number_of DraftsAboveLimit = 24
number_of AboveHallLimit = 25

-- what a call was refused as: the number of its refusal, or 0
abbrev pub refused_as : {A : Type 0} → Result A Refusal → ℕ
refused_as (Ok a) = 0
refused_as (Err e) = number_of e

-- a refusal of a line
abbrev pub refused_at : Refusal → ℕ → Refused
refused_at e n = record { refusal = e; line = n }

-- what a line gives, or its refusal with the line's number
abbrev pub lined : {A : Type 0} → ℕ → Result A Refusal → Result A Refused
lined n (Ok a) = Ok a
lined n (Err e) = Err (refused_at e n)

-- no refusal has the number 0
pub number-above : (e : Refusal) → 0 < number_of e
number-above FileTooLong = lit< tt
number-above BadlyWritten = lit< tt
number-above OutOfRange = lit< tt
number-above MarkedTwice = lit< tt
number-above TooManyMarks = lit< tt
number-above DraftAboveCap = lit< tt
number-above TooManyCalls = lit< tt
number-above MemoryTooShort = lit< tt
number-above Unknown = lit< tt
number-above OffTheBoard = lit< tt
number-above SameVertex = lit< tt
number-above OwnBlock = lit< tt
number-above AcrossBlocks = lit< tt
number-above AboveCap = lit< tt
number-above NothingToUndo = lit< tt
number-above ContractionStands = lit< tt
number-above Fixed = lit< tt
number-above LowAboveHigh = lit< tt
number-above NetNamedTwice = lit< tt
number-above CatalogueFull = lit< tt
number-above DraftsAboveLimit = lit< tt
number-above AboveHallLimit = lit< tt

pub number-some : (e : Refusal) → number_of e ≡ 0 → ⊥
number-some e q = omega (arith, number-above e, q)

-- what `?` hands on is the refusal itself
pub handed_on : {A : Type 0} (r : Result A Refusal) (e : Refusal) → IsErrAnd r (λ x. x ≡ e) → r ≡ Err e
handed_on (Ok a) e h = absurd h
handed_on (Err x) e h = ap (λ (y : Refusal). Err y) h

-- 14 is the number of no other
pub only-14 : (e : Refusal) → number_of e ≡ 14 → e ≡ AboveCap
only-14 FileTooLong q = absurd (omega (arith, q))
only-14 BadlyWritten q = absurd (omega (arith, q))
only-14 OutOfRange q = absurd (omega (arith, q))
only-14 MarkedTwice q = absurd (omega (arith, q))
only-14 TooManyMarks q = absurd (omega (arith, q))
only-14 DraftAboveCap q = absurd (omega (arith, q))
only-14 TooManyCalls q = absurd (omega (arith, q))
only-14 MemoryTooShort q = absurd (omega (arith, q))
only-14 Unknown q = absurd (omega (arith, q))
only-14 OffTheBoard q = absurd (omega (arith, q))
only-14 SameVertex q = absurd (omega (arith, q))
only-14 OwnBlock q = absurd (omega (arith, q))
only-14 AcrossBlocks q = absurd (omega (arith, q))
only-14 AboveCap q = refl
only-14 NothingToUndo q = absurd (omega (arith, q))
only-14 ContractionStands q = absurd (omega (arith, q))
only-14 Fixed q = absurd (omega (arith, q))
only-14 LowAboveHigh q = absurd (omega (arith, q))
only-14 NetNamedTwice q = absurd (omega (arith, q))
only-14 CatalogueFull q = absurd (omega (arith, q))
only-14 DraftsAboveLimit q = absurd (omega (arith, q))
only-14 AboveHallLimit q = absurd (omega (arith, q))
