-- Lemmas on sessions and on the serving of connections.
mod SessionLemmas
mod EndLemmas
mod DoorLemmas
mod ServerLemmas
