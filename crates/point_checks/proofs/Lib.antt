-- Lemmas on sums over the numbers of a key, and on points of forms Q and P.
pub mod Parts
pub mod PropPoints
pub mod Tests
pub mod RootEnds
pub mod QualPoints
pub mod Running
