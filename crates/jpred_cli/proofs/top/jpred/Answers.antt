use Rattle.jpred_cli.proofs.Answering.{statuses, no_command, runs, refuses, shows, refused, misses}
use Rattle.jpred_cli.proofs.top.jpred.Goals as goal

pub returns-clause-statuses : goal.returns-clause-statuses
returns-clause-statuses g c = statuses _ _ _ _ _ _ _ _ c.answer.ensures.answers

pub returns-clause-no_command : goal.returns-clause-no_command
returns-clause-no_command g c = λ none. no_command _ _ _ _ _ _ _ _ none c.answer.ensures.answers

pub returns-clause-runs : goal.returns-clause-runs
returns-clause-runs g c = runs _ _ _ _ _ _ _ _ c.answer.ensures.answers

pub returns-clause-refuses : goal.returns-clause-refuses
returns-clause-refuses g c = refuses _ _ _ _ _ _ _ _ c.answer.ensures.answers

pub returns-clause-misses : goal.returns-clause-misses
returns-clause-misses g c = misses _ _ _ _ _ _ _ _ c.answer.ensures.answers

pub returns-clause-shows : goal.returns-clause-shows
returns-clause-shows g c = shows _ _ _ _ _ _ _ _ c.answer.ensures.answers

pub returns-clause-refused : goal.returns-clause-refused
returns-clause-refused g c = λ three. refused _ _ _ _ _ _ _ _ c.answer.ensures.answers three
