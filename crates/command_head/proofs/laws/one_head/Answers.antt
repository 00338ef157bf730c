use Rattle.command_head.specs.Grammar.{DerivesReg, DerivesNamed, DerivesPromote, DerivesImage, DerivesConvert, DerivesCombine, DerivesLanguages, DerivesLanguage, DerivesName, DerivesLoad, DerivesAlone}
use Rattle.command_head.proofs.OneFault.{one_head, one_reg}
use Rattle.command_head.proofs.NamedHeads.{one_named}
use Rattle.command_head.proofs.WordHeads.{one_promote, one_image, one_convert}
use Rattle.command_head.proofs.CombineHeads.{one_combine}
use Rattle.command_head.proofs.LanguageHeads.{one_languages, one_language}
use Rattle.command_head.proofs.ListingHeads.{one_name}
use Rattle.command_head.proofs.TestHeads.{one_test}
use Rattle.command_head.proofs.RunHeads.{one_load, one_alone}
use Rattle.command_head.proofs.laws.one_head.Goals as goal

pub returns-clause-reg : goal.returns-clause-reg
returns-clause-reg c = one_head DerivesReg one_reg

pub returns-clause-named : goal.returns-clause-named
returns-clause-named c word = one_head (DerivesNamed word) (one_named word)

pub returns-clause-promote : goal.returns-clause-promote
returns-clause-promote c = one_head DerivesPromote one_promote

pub returns-clause-image : goal.returns-clause-image
returns-clause-image c word = one_head (DerivesImage word) (one_image word)

pub returns-clause-convert : goal.returns-clause-convert
returns-clause-convert c = one_head DerivesConvert one_convert

pub returns-clause-combine : goal.returns-clause-combine
returns-clause-combine c = one_head DerivesCombine one_combine

pub returns-clause-languages : goal.returns-clause-languages
returns-clause-languages c word = one_head (DerivesLanguages word) (one_languages word)

pub returns-clause-language : goal.returns-clause-language
returns-clause-language c word = one_head (DerivesLanguage word) (one_language word)

pub returns-clause-name : goal.returns-clause-name
returns-clause-name c word = one_head (DerivesName word) (one_name word)

pub returns-clause-test : goal.returns-clause-test
returns-clause-test c = one_test

pub returns-clause-load : goal.returns-clause-load
returns-clause-load c = one_head DerivesLoad one_load

pub returns-clause-alone : goal.returns-clause-alone
returns-clause-alone c word = one_head (DerivesAlone word) (one_alone word)
