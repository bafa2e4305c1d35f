-- The texts that say numbers say those of tb_program_jobs, by computing.
use Rattle.std.proofs.Common.{◌≡◌, ◌++◌, codes, refl}
use Rattle.std.specs.Fmt.{decimal, digits}
use Rattle.tb_engines.specs.Numbers.{MOST_EVENTS, USUAL_EVENTS}
use Rattle.tb_compiled.specs.Numbers.{USUAL_SEED}
use Rattle.tb_program_jobs.specs.Numbers.{USUAL_STEP}
use Rattle.tb_program_command_line.specs.declared.arguments.TheConstants.{LIMIT_HELP, PLAY_LIMIT_HELP, MOST_EVENTS_TEXT, SEED_HELP, USUAL_EVENTS_TEXT, USUAL_STEP_TEXT}

-- the help of a seed ends with the usual one
pub seed_said : SEED_HELP.now ≡ (codes "The first state of RND, 0 to 65535; time is one by the clock [default: " ++ (decimal USUAL_SEED ++ codes "]"))
unfolding digits
seed_said = refl

-- the usual step
pub step_said : USUAL_STEP_TEXT.now ≡ decimal USUAL_STEP
unfolding digits
step_said = refl

-- the usual limit
pub usual_said : USUAL_EVENTS_TEXT.now ≡ decimal USUAL_EVENTS
unfolding digits
usual_said = refl

-- the greatest limit
pub most_said : MOST_EVENTS_TEXT.now ≡ decimal MOST_EVENTS
unfolding digits
most_said = refl

-- the help of a limit ends with the greatest
pub limit_said : LIMIT_HELP.now ≡ (codes "The most events, 1 to " ++ decimal MOST_EVENTS)
unfolding digits
limit_said = refl

-- so does that of a limit for each line
pub play_limit_said : PLAY_LIMIT_HELP.now ≡ (codes "The most events from one line that is typed to the next, 1 to " ++ decimal MOST_EVENTS)
unfolding digits
play_limit_said = refl
