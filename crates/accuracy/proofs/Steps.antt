-- exp's steps, by the numbers of docs/ROUTINES.md: how far each is from e ^ x. Leaves first. Assumes nothing.
-- ---- exp's table and its polynomial against e ^ t, in whole numbers
pub mod TableNear
pub mod Polynomials
pub mod PolynomialNear
-- ---- the tail of the polynomial, rounded
pub mod TailErrors
pub mod TailOperations
pub mod TailRounded
pub mod TailNear
-- ---- steps 1, 3, 4 and 5: t, k, r, and the row and the octave
pub mod Reduction
pub mod IndexExact
pub mod IndexBits
-- ---- step 7's sum, and with the power of two
pub mod SumRounded
pub mod SumNear
pub mod Octaves
pub mod PartsTogether
pub mod NearForIndex
-- ---- steps 1 and 3 to 7 at every |x| ≤ 770
pub mod TableRows
pub mod ScaledExact
pub mod NearUpTo770
pub mod ValueUpTo770
-- ---- step 7's value, step 2 and step 8 against the claim
pub mod ValueAnswers
pub mod RangeTests
pub mod BesideOneAnswers
pub mod OutOfRangeAnswers
