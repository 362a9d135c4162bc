use Rattle.ss_meta.proofs.Readings as readings
use Rattle.ss_meta.proofs.laws.one_reading.Goals as goal

pub returns-clause-records : goal.returns-clause-records
returns-clause-records c = readings.records_once

pub returns-clause-apart : goal.returns-clause-apart
returns-clause-apart c limit at file records = readings.apart limit at file records

pub returns-clause-one_place : goal.returns-clause-one_place
returns-clause-one_place c limit at at' file = readings.place_once limit at at' file
