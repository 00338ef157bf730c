use Rattle.dfa_reading.proofs.SystemHeaders.{language_files_list_languages}
use Rattle.dfa_reading.proofs.laws.language_files_list_languages.Goals as goal

pub returns : goal.returns
returns c = language_files_list_languages
