use Rattle.tree.proofs.reader.Reader.+action.Given as goal

abbrev pub decreases-action : goal.decreases-action
decreases-action l = l.way.now.depth
