pub use Rattle.ivy_calls.specs as ivy_calls
pub use Rattle.ivy_own.specs as ivy_own
pub use Rattle.ivy_play.specs as ivy_play
pub use Rattle.ivy_session.specs as ivy_session
pub use Rattle.ivy_sync.specs as ivy_sync
pub use Rattle.ivy_world.specs as ivy_world
