use Rattle.queues.proofs.Firsts.{first_least}
use Rattle.queues.proofs.heap_queue.methods.HeapQueueQueue.least.Goals as goal

pub returns : goal.returns
returns c = record { answer = first_least c.args.self.now c.least.result c.args.self.now.apart c.least.ensures.answer }
