use Rattle.ss_hot.proofs.Readings as readings
use Rattle.ss_hot.proofs.laws.one_reading.Goals as goal

pub returns-clause-settings : goal.returns-clause-settings
returns-clause-settings c = readings.settings_once

pub returns-clause-records : goal.returns-clause-records
returns-clause-records c = readings.records_once

pub returns-clause-apart : goal.returns-clause-apart
returns-clause-apart c = readings.apart

pub returns-clause-one_place : goal.returns-clause-one_place
returns-clause-one_place c = readings.place_once
