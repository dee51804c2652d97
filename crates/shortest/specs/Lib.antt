-- Nobody draws better than the listed layouts (demand 3). Read Shortest.antt for what is proved; the others lead up to it, in this order.
pub mod Chains
pub mod Exchange
pub mod Shortcut
pub mod Edges
pub mod Ring
pub mod Moves
pub mod Weight
pub mod Step
pub mod Descent
pub mod Records
pub mod Fewest
pub mod Shortest
