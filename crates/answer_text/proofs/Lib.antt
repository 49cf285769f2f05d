pub mod AxesWritten
