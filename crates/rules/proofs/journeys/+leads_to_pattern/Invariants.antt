use Rattle.rules.proofs.journeys.+leads_to_pattern.Given as goal

abbrev pub decreases-leads_to_pattern : goal.decreases-leads_to_pattern
decreases-leads_to_pattern g l = l.steps
