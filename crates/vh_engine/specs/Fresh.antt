-- What an engine works with before its first sample.
use Rattle.std.specs.Prelude.{◌≡◌, ◌≤◌, ◌<◌, ◌*◌, ◌+◌, ℕ, List, [], length, All, false, vec_len, vec_capacity}
use Rattle.vh_params.specs.Nodes.{nodes_of}
use Rattle.vh_session.specs.declared.session.Session.{Session}
use Rattle.vh_session.specs.declared.wire.End.TheVariants.{Out}
use Rattle.vh_session.specs.Content.{sources_into}
use Rattle.vh_session.specs.Names.{content_of}
use Rattle.vh_engine.specs.declared.work.Work.{Work}
use Rattle.vh_engine.specs.Plans.{AreSeats, AreFirstBoards}
use Rattle.vh_engine.specs.Runs.{AreAfter, IsSpacious}

pub record IsFreshWork (session : Session) (firsts : List ℕ) (max answers : ℕ) (work : Work) : Type 0 where
  pub seats : AreSeats (content_of session) work.seats.items
  pub order : AreAfter (length (nodes_of session.nodes)) work.seats.items [] work.order.items
  pub ends : work.ends.items ≡ sources_into session.wires.items Out false
  pub boards : AreFirstBoards session.lanes.items (nodes_of session.nodes) firsts work.boards.items
  pub rows : (length work.rows.items ≡ length (nodes_of session.nodes)) × All (λ row. length row.items ≡ session.channels * max) work.rows.items
  pub space : IsSpacious work.space (session.channels * max) 64 max
  pub given : length work.given.items ≡ 64
  pub values : work.values.items ≡ firsts
  pub replies : (work.replies.items ≡ []) × (vec_len work.replies + answers ≤ vec_capacity work.replies)
  pub pos : work.pos ≡ 0
  pub max_is : work.max ≡ max
  pub flushed : work.flushed ≡ false
