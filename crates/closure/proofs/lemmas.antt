pub mod queued_closure
