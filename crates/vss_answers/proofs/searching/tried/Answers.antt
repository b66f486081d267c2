-- How the search ended is handed on.
use Rattle.task_driver.specs.Questions.{of_fewest}
use Rattle.vss_stages.proofs.StageLaws.{hands_value, hands_refusal, stops_by}
use Rattle.vss_jobs.specs.Readings.{size_stop, trying}
use Rattle.vss_jobs.specs.Settings.{setting_of}
use Rattle.vss_answers.specs.Answers.{SearchEnds, tried_answer, IsRightAnswer}
use Rattle.vss_answers.proofs.searching.tried.Goals as goal

pub returns-in-Ok : goal.returns-in-Ok
returns-in-Ok g c =
    hands_value (SearchEnds (setting_of c.args.scene) of_fewest c.args.budget) (tried_answer (setting_of c.args.scene)) size_stop c.in-Ok.outcome
    (record { is_instance = c.search_end.ensures.instance; ends_so = c.in-Ok.ensures.ends })

pub returns : goal.returns
returns g c =
    rw c.stop_of_size.ensures
    (stops_by (IsRightAnswer (trying (setting_of c.args.scene) c.args.budget)) (size_stop c.in-Err.why)
    (hands_refusal (SearchEnds (setting_of c.args.scene) of_fewest c.args.budget) (tried_answer (setting_of c.args.scene)) size_stop c.in-Err.why
    (record { is_instance = c.search_end.ensures.instance; ends_so = c.in-Err.ensures.ends })))
