use Rattle.outcome.proofs.worker.Worker.+value.Given as goal

abbrev pub decreases-value : goal.decreases-value
decreases-value l = l.way.now.depth
