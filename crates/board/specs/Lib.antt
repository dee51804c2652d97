-- What the board's calls say of the model's, and why.
pub mod Past
pub mod Standing
pub mod ReadyOneWay
pub mod Holds
pub mod PlaceLaws
pub mod Held
pub mod CallLaws
pub mod ShowLaws
pub mod Sizes
pub mod DecisionLaws
pub mod PlaceCalls
