-- Why `end_of_links` of src/system.rt ends.
use Rattle.tb_program_host.proofs.system.+end_of_links.Given as goal

abbrev pub decreases-end_of_links : goal.decreases-end_of_links
decreases-end_of_links g l = l.links
