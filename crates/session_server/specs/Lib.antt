-- What sessions over one core read, write and leave in the core, and how they
-- are served, many at once.
pub mod Session
pub mod Server
