-- What the contracts of this crate, and of those above it, say of the outside.
pub mod Faults
pub mod Transfer
pub mod Link
pub mod Source
pub mod Sink
pub mod Door
pub mod PieceSource
pub mod SureSource
pub mod ListSink
pub mod StdStreams
pub mod PairLink
pub mod ListDoor
pub mod TcpLink
pub mod TcpDoor
