pub mod Words
-- Lemmas on runs of scripts.
mod NextLemmas
pub mod WholeLemmas
pub mod BetweenLemmas
pub mod RunLemmas
mod AskedLemmas
mod QuietLemmas
mod WantedLemmas
mod ToldWantedLemmas
mod ToldAloneLemmas
mod FrontRunLemmas
pub mod OnLemmas
mod TakenLemmas
mod LapRowLemmas
mod LapPieceLemmas
mod LapEventLemmas
mod LapLemmas
mod LapSubmitLemmas
mod FrontCountLemmas
mod FrontNewLemmas
mod FrontGiveLemmas
mod FrontWaitingLemmas
mod FrontOpenLemmas
mod FrontReadyLemmas
mod FrontPlayLemmas
pub mod SeatTellsLemmas
pub mod SharedReadLemmas
mod SharedWholeLemmas
mod SharedScriptLemmas
mod AloneLemmas
mod RunAloneLemmas
pub mod SharedRunLemmas
pub mod SharedEndLemmas
mod SharedDoneLemmas
mod SeatTurnLemmas
mod SeatLetLemmas
pub mod SeatFrontLemmas
mod SeatReadLemmas
mod SeatManyLemmas
mod SeatPlaysLemmas
mod SeatWholeLemmas
mod SeatRestLemmas
mod SeatRunLemmas
mod SeatEndLemmas
mod SeatDoneLemmas
pub mod BoardSeatLemmas
mod BoardCloseLemmas
pub mod CrossingLemmas
