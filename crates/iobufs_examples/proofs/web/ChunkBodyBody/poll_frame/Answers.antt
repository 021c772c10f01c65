use Rattle.tokio.specs.Io.Steps.{Yields_rest, Yields_same, Yields_value}
use Rattle.iobufs_examples.specs.Web.{StepsChunk}
use Rattle.iobufs_examples.proofs.web.ChunkBodyBody.poll_frame.Goals as goal

pub returns-clause-value : goal.returns-clause-value
returns-clause-value c = Yields_value StepsChunk c.args.self.now c.step.new.self c.step.result c.step.ensures

pub returns-clause-rest : goal.returns-clause-rest
returns-clause-rest c = Yields_rest StepsChunk c.args.self.now c.step.new.self c.step.result c.step.ensures

pub returns-clause-same : goal.returns-clause-same
returns-clause-same c = Yields_same StepsChunk c.args.self.now c.step.new.self c.step.result c.step.ensures
