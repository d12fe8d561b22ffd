use Rattle.outcome.proofs.worker.Worker.+action.Given as goal

abbrev pub decreases-action : goal.decreases-action
decreases-action l = l.way.now.depth
